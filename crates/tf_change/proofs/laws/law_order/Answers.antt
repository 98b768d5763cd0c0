use Rattle.tf_change.proofs.OrderLemmas.{moves, back, there}
use Rattle.tf_change.proofs.laws.law_order.Goals as goal

pub returns-clause-moves : goal.returns-clause-moves
returns-clause-moves c = moves

pub returns-clause-back : goal.returns-clause-back
returns-clause-back c = back

pub returns-clause-there : goal.returns-clause-there
returns-clause-there c = there
