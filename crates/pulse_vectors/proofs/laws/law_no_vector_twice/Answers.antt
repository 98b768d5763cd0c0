use Rattle.std.proofs.Common.{◌∙◌, sym}
use Rattle.pulse_vectors.proofs.Places.{place-only}
use Rattle.pulse_vectors.proofs.laws.law_no_vector_twice.Goals as goal

pub returns : goal.returns
returns c = λ n k i j y g h. (place-only n k i y g).at ∙ sym (place-only n k j y h).at
