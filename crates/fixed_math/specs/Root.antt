-- Whole square roots and bit lengths.
use Rattle.std.specs.Prelude.{◌≡◌, ℕ, zero, suc, ◌+◌, ◌-◌, ◌*◌, ◌/◌, ◌^◌, ◌<◌, ◌≤◌, nat_le, if◌then◌else◌}

-- r is the square root of v, rounded down
pub record IsRoot (v r : ℕ) : Type 0 where
  pub low : r * r ≤ v
  pub high : v < (r + 1) * (r + 1)

-- the greater of r and r + 1 whose square is at most v
abbrev pub last_digit : ℕ → ℕ → ℕ
last_digit v r = if nat_le ((r + 1) * (r + 1)) v then r + 1 else r

-- the root of a number of n digits of base 4: twice the root of all but its last digit, or one more
unfoldable pub root_by : ℕ → ℕ → ℕ
root_by zero v = 0
root_by (suc n) v = last_digit v (2 * root_by n (v / 4))

-- the square root of a number below 2^128, rounded down
unfoldable pub root : ℕ → ℕ
root v = root_by 64 v

-- n is the number of bits of v
pub record IsBitLength (v n : ℕ) : Type 0 where
  pub high : v < 2 ^ n
  pub low : 0 < v → 2 ^ (n - 1) ≤ v
  pub none : v ≡ 0 → n ≡ 0

-- how many of the first n powers of two, from 2^0 on, are at most v
unfoldable pub powers_within : ℕ → ℕ → ℕ
powers_within zero v = 0
powers_within (suc n) v = powers_within n v + (if nat_le (2 ^ n) v then 1 else 0)

-- the number of bits of a number below 2^32
unfoldable pub bit_length_of : ℕ → ℕ
bit_length_of v = powers_within 32 v
