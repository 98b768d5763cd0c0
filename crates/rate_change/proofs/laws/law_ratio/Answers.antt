use Rattle.rate_change.proofs.RateLemmas.{one_ratio, of_rate}
use Rattle.rate_change.proofs.laws.law_ratio.Goals as goal

pub returns-clause-one : goal.returns-clause-one
returns-clause-one c = λ rate up down other_up other_down h a b. one_ratio rate up down other_up other_down h a b

pub returns-clause-each : goal.returns-clause-each
returns-clause-each c = of_rate
