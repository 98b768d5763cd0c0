-- The spectra of a stream's channels from those of a frame's: a mono frame in a stream of two channels, and a stereo frame in
-- a stream of one.
use Rattle.std.specs.Prelude.{ℕ, nat_eq, nat_lt, if◌then◌else◌, ℤ, ◌+ℤ◌, List, length}
use Rattle.std.specs.Int.{int_shr}
use Rattle.fixed_math.specs.Items.{item, listed}

-- half of the sum, floored
unfoldable pub middle_of : List ℤ → List ℤ → List ℤ
middle_of left right = listed (length left) (λ p. int_shr (item left p +ℤ item right p) 1)

-- the spectrum of the stream's first channel, and of its second
unfoldable pub first_of : ℕ → ℕ → List ℤ → List ℤ → List ℤ
first_of stream frame left right = if nat_lt stream frame then middle_of left right else left

unfoldable pub second_of : ℕ → List ℤ → List ℤ → List ℤ
second_of frame left right = if nat_eq frame 1 then left else right
