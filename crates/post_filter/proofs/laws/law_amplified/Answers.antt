use Rattle.post_filter.proofs.SampleLemmas.{parts, place_small, amplified-plain}
use Rattle.post_filter.proofs.laws.law_amplified.Goals as goal

pub returns-clause-parts : goal.returns-clause-parts
returns-clause-parts c = parts

pub returns-clause-place : goal.returns-clause-place
returns-clause-place c = place_small

pub returns-clause-plain : goal.returns-clause-plain
returns-clause-plain c = amplified-plain
