use Rattle.celt_base.specs.Questions.{interval_of}
use Rattle.range_coder.proofs.CodeLaws.{code_one, code_answers_one}
use Rattle.range_coder.proofs.laws.law_code_determined.Goals as goal

pub returns-clause-frame : goal.returns-clause-frame
returns-clause-frame c = λ list len one two first second. code_one (interval_of list) len one two first.code second.code

pub returns-clause-answers : goal.returns-clause-answers
returns-clause-answers c = code_answers_one
