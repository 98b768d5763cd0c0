use Rattle.mdct_fixed.proofs.PlanLemmas.{joins_any, joins_of_length}
use Rattle.mdct_fixed.proofs.laws.law_joins.Goals as goal

pub returns-clause-any : goal.returns-clause-any
returns-clause-any c = joins_any

pub returns-clause-lengths : goal.returns-clause-lengths
returns-clause-lengths c = joins_of_length
