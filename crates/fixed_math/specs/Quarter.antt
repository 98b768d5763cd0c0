-- The table of cosines.
use Rattle.std.specs.Prelude.{◌≡◌, ℕ, ◌<◌, pos, List, slice_index}
use Rattle.fixed_math.specs.Circle.{quarter_cosine}

-- the table holds the cosines of the angles from 0 to a quarter of the circle
pub record IsQuarter (table : List ℕ) : Type 0 where
  pub value : (a : ℕ) → a < 3841 → pos (slice_index table a) ≡ quarter_cosine a
