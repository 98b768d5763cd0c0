use Rattle.range_coder.proofs.CodeLaws.{code_first, code_last, code_between}
use Rattle.range_coder.proofs.laws.law_code_bits.Goals as goal

pub returns-clause-head : goal.returns-clause-head
returns-clause-head c = code_first

pub returns-clause-tail : goal.returns-clause-tail
returns-clause-tail c = code_last

pub returns-clause-between : goal.returns-clause-between
returns-clause-between c = code_between
