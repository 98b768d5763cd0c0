use Rattle.bit_allocation.proofs.SearchLemmas.{boosted_rises, stepped_rises}
use Rattle.bit_allocation.proofs.laws.law_counts_rise.Goals as goal

pub returns-clause-quality : goal.returns-clause-quality
returns-clause-quality c = boosted_rises

pub returns-clause-step : goal.returns-clause-step
returns-clause-step c = stepped_rises
