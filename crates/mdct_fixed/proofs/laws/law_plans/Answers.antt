use Rattle.mdct_fixed.proofs.PlanLemmas.{plan_of}
use Rattle.mdct_fixed.proofs.laws.law_plans.Goals as goal

pub returns-clause-plan : goal.returns-clause-plan
returns-clause-plan c = λ len l h. (plan_of len l h).plan

pub returns-clause-length : goal.returns-clause-length
returns-clause-length c = λ len l h. (plan_of len l h).size
