-- Which blocks of a band have pulses (RFC 6716, 4.3.4.5 and 4.3.5).
use Rattle.std.specs.Prelude.{ℕ, zero, suc, ◌+◌, ◌*◌, ◌/◌, ◌^◌, nat_eq, Bool, false, ◌||◌, not, if◌then◌else◌, ℤ, unsigned_abs, List, [], ◌∷◌, length, take, drop}

-- whether an item is not 0
unfoldable pub has_pulse : List ℤ → Bool
has_pulse [] = false
has_pulse (y ∷ ys) = not (nat_eq (unsigned_abs y) 0) || has_pulse ys

-- the sum of 2^k for each of the first blocks k, of n items each, that have a pulse
unfoldable pub block_bits : ℕ → List ℤ → ℕ → ℕ
block_bits n ys zero = 0
block_bits n ys (suc k) = block_bits n ys k + (if has_pulse (take n (drop (k * n) ys)) then 2 ^ k else 0)

-- one block counts as having pulses
unfoldable pub mask : ℕ → List ℤ → ℕ
mask blocks ys = if nat_eq blocks 1 then 1 else block_bits (length ys / blocks) ys blocks
