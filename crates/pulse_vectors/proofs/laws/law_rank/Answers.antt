use Rattle.pulse_vectors.proofs.Places.{place-get, place-only}
use Rattle.pulse_vectors.proofs.laws.law_rank.Goals as goal

pub returns-clause-stands : goal.returns-clause-stands
returns-clause-stands c = λ y. place-get y

pub returns-clause-only : goal.returns-clause-only
returns-clause-only c = λ n k i y g. (place-only n k i y g).at
