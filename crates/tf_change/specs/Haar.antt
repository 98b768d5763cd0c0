-- The Haar step (RFC 6716, 4.3.4.5).
use Rattle.std.specs.Prelude.{ℕ, ◌+◌, ◌-◌, ◌/◌, ◌%◌, nat_eq, if◌then◌else◌, ℤ, pos, ◌+ℤ◌, ◌-ℤ◌, ◌*ℤ◌, List, length}
use Rattle.fixed_math.specs.Rounding.{rounded}
use Rattle.fixed_math.specs.Items.{item, listed}

-- v over the root of 2, which is v times 23170 / 2^15, rounded
unfoldable pub scaled : ℤ → ℤ
scaled v = rounded (pos 23170 *ℤ v) 15

-- place p stands in the run p / s of s items. An item of an even run becomes the sum of itself and its partner in
-- the next run, and that partner the difference of the two.
abbrev pub haar_item : ℕ → List ℤ → ℕ → ℤ
haar_item s xs p =
    if nat_eq (p / s % 2) 0
    then scaled (item xs p) +ℤ scaled (item xs (p + s))
    else scaled (item xs (p - s)) -ℤ scaled (item xs p)

unfoldable pub haar_of : ℕ → List ℤ → List ℤ
haar_of s xs = listed (length xs) (haar_item s xs)
