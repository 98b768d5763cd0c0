-- Lists so small that no clamp acts on them, so that the code leaves it out. No public contract cites this.
use Rattle.std.specs.Prelude.{ℕ, ◌+◌, ◌*◌, ◌^◌, ◌≤◌, ℤ, List}
use Rattle.fixed_math.specs.Unit.{square, energy}

-- After each of n turns of pairs with cosine c and sine s no item is above 2^17 in size: by its rounding a turn adds less than
-- 2^22 to the sum of squares.
pub record IsCalm (n : ℕ) (c s : ℤ) (xs : List ℤ) : Type 0 where
  pub angle : square c + square s ≤ 2 ^ 30 + 2 ^ 16
  pub sum : energy xs + n * 2 ^ 22 ≤ 2 ^ 34
