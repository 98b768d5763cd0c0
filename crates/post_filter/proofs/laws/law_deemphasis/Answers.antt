use Rattle.std.proofs.Common.{arith, length}
use Rattle.post_filter.proofs.DeemphasisLemmas.{same_outputs, before-deemphasized, deemphasized_are, deemphasized_is}
use Rattle.post_filter.proofs.laws.law_deemphasis.Goals as goal

pub returns-clause-met : goal.returns-clause-met
returns-clause-met c = deemphasized_are

pub returns-clause-fixed : goal.returns-clause-fixed
returns-clause-fixed c = deemphasized_is

pub returns-clause-last : goal.returns-clause-last
returns-clause-last c = λ memory xs. before-deemphasized memory xs (length xs) (omega arith)

pub returns-clause-one : goal.returns-clause-one
returns-clause-one c = same_outputs
