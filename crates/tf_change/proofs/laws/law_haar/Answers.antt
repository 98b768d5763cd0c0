use Rattle.tf_change.proofs.HaarLemmas.{length-haar, pair_sum, pair_difference}
use Rattle.tf_change.proofs.laws.law_haar.Goals as goal

pub returns-clause-sum : goal.returns-clause-sum
returns-clause-sum c = pair_sum

pub returns-clause-difference : goal.returns-clause-difference
returns-clause-difference c = pair_difference

pub returns-clause-count : goal.returns-clause-count
returns-clause-count c = λ xs s. length-haar s xs
