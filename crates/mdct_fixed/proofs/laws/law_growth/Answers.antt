use Rattle.mdct_fixed.proofs.PlanLemmas.{plan_of, joined_all_within, longest_growth}
use Rattle.mdct_fixed.proofs.laws.law_growth.Goals as goal

pub returns-clause-joins : goal.returns-clause-joins
returns-clause-joins c = joined_all_within

pub returns-clause-greatest : goal.returns-clause-greatest
returns-clause-greatest c = λ len l h. (plan_of len l h).growth

pub returns-clause-longest : goal.returns-clause-longest
returns-clause-longest c = longest_growth
