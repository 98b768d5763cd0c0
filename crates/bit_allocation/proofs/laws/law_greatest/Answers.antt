use Rattle.bit_allocation.proofs.LawLemmas.{one_greatest}
use Rattle.bit_allocation.proofs.PlanLemmas.{bits_fit}
use Rattle.bit_allocation.proofs.SearchLemmas.{quality_is, step_is}
use Rattle.bit_allocation.proofs.laws.law_greatest.Goals as goal

pub returns-clause-quality : goal.returns-clause-quality
returns-clause-quality c = quality_is

pub returns-clause-step : goal.returns-clause-step
returns-clause-step c = step_is

pub returns-clause-one : goal.returns-clause-one
returns-clause-one c = one_greatest

pub returns-clause-fits : goal.returns-clause-fits
returns-clause-fits c = bits_fit
