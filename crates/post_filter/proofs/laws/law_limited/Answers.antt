use Rattle.post_filter.proofs.OutputLemmas.{limited_size, limited_inside, limited_high, limited_low}
use Rattle.post_filter.proofs.laws.law_limited.Goals as goal

pub returns-clause-size : goal.returns-clause-size
returns-clause-size c = limited_size

pub returns-clause-inside : goal.returns-clause-inside
returns-clause-inside c = limited_inside

pub returns-clause-high : goal.returns-clause-high
returns-clause-high c = limited_high

pub returns-clause-low : goal.returns-clause-low
returns-clause-low c = limited_low
