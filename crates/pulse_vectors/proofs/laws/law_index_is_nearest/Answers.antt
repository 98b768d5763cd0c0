use Rattle.pulse_vectors.proofs.CostSteps.{index-nearest}
use Rattle.pulse_vectors.proofs.laws.law_index_is_nearest.Goals as goal

pub returns-clause-nearest : goal.returns-clause-nearest
returns-clause-nearest c = λ n q b h l. (index-nearest n q b h l).near

pub returns-clause-lower : goal.returns-clause-lower
returns-clause-lower c = λ n q b h l e. (index-nearest n q b h l).lower e
