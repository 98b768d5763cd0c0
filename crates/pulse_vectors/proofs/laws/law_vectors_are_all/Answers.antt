use Rattle.pulse_vectors.proofs.Places.{vector_there, there_vector}
use Rattle.pulse_vectors.proofs.laws.law_vectors_are_all.Goals as goal

pub returns : goal.returns
returns c = λ n k y. (there_vector n k y, vector_there n k y)
