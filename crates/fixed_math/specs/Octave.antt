-- The table of an octave's powers, and a place in it.
use Rattle.std.specs.Prelude.{◌≡◌, ℕ, ◌+◌, ◌<◌, ◌≤◌, List, slice_index}
use Rattle.fixed_math.specs.Powers.{fraction}

-- the table holds the powers of two from 2^0 to below 2^1
pub record IsOctave (table : List ℕ) : Type 0 where
  pub value : (f : ℕ) → f < 1024 → slice_index table f ≡ fraction f

-- f is the last place of the octave whose power is below the limit
pub record IsPlace (limit f : ℕ) : Type 0 where
  pub place : f < 1024
  pub below : fraction f < limit
  pub last : f < 1023 → limit ≤ fraction (f + 1)
