use Rattle.range_coder.proofs.Answering.{bit_answer, first_bit_answer}
use Rattle.range_coder.proofs.laws.law_bit_answer.Goals as goal

pub returns-clause-later : goal.returns-clause-later
returns-clause-later c = bit_answer

pub returns-clause-first : goal.returns-clause-first
returns-clause-first c = first_bit_answer
