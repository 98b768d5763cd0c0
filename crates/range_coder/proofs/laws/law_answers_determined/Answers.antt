use Rattle.range_coder.proofs.Answering.{answer_determined}
use Rattle.range_coder.proofs.laws.law_answers_determined.Goals as goal

pub returns : goal.returns
returns c = answer_determined
