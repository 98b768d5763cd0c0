-- What the weights of a ratio hold: of each part of a sample but part 0 its 32 weights and the divisor.
use Rattle.std.specs.Prelude.{◌≡◌, ℕ, ◌+◌, ◌<◌, pos, ◌-ℤ◌, List, length, get_or}
use Rattle.fixed_math.specs.Items.{item}
use Rattle.rate_change.specs.Digits.{joined}
use Rattle.rate_change.specs.Resampling.{weight, divisor}
use Rattle.rate_change.specs.declared.row.Row.{Row}

pub record IsRow (up f : ℕ) (row : Row) : Type 0 where
  pub weights_are : (t : ℕ) → t < 32 → joined (item row.high t) (item row.middle t) (item row.low t) ≡ weight up f (pos t -ℤ pos 15)
  pub divisor_is : row.divisor ≡ divisor up f

-- the rows of the parts from 1 on
pub record AreRows (up : ℕ) (rows : List Row) : Type 0 where
  pub count : length rows + 1 ≡ up
  pub each : (i : ℕ) (d : Row) → i + 1 < up → IsRow up (i + 1) (get_or rows i d)
