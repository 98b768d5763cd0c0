use Rattle.post_filter.proofs.SampleLemmas.{saturated_inside, saturated_low, saturated_high}
use Rattle.post_filter.proofs.laws.law_saturated.Goals as goal

pub returns-clause-inside : goal.returns-clause-inside
returns-clause-inside c = saturated_inside

pub returns-clause-low : goal.returns-clause-low
returns-clause-low c = saturated_low

pub returns-clause-high : goal.returns-clause-high
returns-clause-high c = saturated_high
