use Rattle.bit_allocation.proofs.LawLemmas.{questions_law}
use Rattle.bit_allocation.proofs.laws.law_questions.Goals as goal

pub returns : goal.returns
returns c = questions_law
