-- Vectors of unit length, or of a gain.
use Rattle.std.specs.Prelude.{ℕ, ◌+◌, ◌*◌, ◌/◌, ◌^◌, nat_eq, if◌then◌else◌, ℤ, pos, negsuc, ◌+ℤ◌, ◌*ℤ◌, unsigned_abs, int_div, List, map, sum_by}
use Rattle.std.specs.Int.{int_shr}
use Rattle.fixed_math.specs.Root.{root}

abbrev pub square : ℤ → ℕ
square x = unsigned_abs x * unsigned_abs x

-- the sum of the squares
abbrev pub energy : List ℤ → ℕ
energy xs = sum_by square xs

-- the vector's length, in units of 2^-12
unfoldable pub norm : List ℤ → ℕ
norm xs = root (energy xs * 2 ^ 24)

-- an item over the length r, times half of the gain g; truncated
abbrev pub over : ℤ → ℕ → ℤ → ℤ
over g r x = int_div ((x *ℤ g) *ℤ pos 2048) (pos r)

-- each item of the vector that has half of g as its length; all 0 where the vector has none
unfoldable pub unit_of : ℤ → List ℤ → List ℤ
unit_of g xs = if nat_eq (energy xs) 0 then map (λ x. pos 0) xs else map (over g (norm xs)) xs

-- one more than the quotient of g and r, in units of 2^-59
abbrev pub reciprocal_of : ℕ → ℕ → ℕ
reciprocal_of g r = g * 2 ^ 59 / r + 1

-- a product by a reciprocal, shifted, and the one that truncates it where the item is negative
abbrev pub carry : ℤ → ℤ
carry (pos n) = pos 0
carry (negsuc n) = pos 1

abbrev pub by_reciprocal : ℕ → ℤ → ℤ
by_reciprocal m x = int_shr (x *ℤ pos m) 48 +ℤ carry x
