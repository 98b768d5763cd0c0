-- Powers of two by steps of 2^(1/1024), and logarithms.
use Rattle.std.specs.Prelude.{ℕ, zero, suc, ◌+◌, ◌-◌, ◌*◌, ◌/◌, ◌%◌, ◌^◌, ◌<◌, ◌≤◌, nat_le, nat_lt, if◌then◌else◌}
use Rattle.fixed_math.specs.Root.{root}
use Rattle.fixed_math.specs.Search.{greatest}

-- 2 to the power 1 / 2^k, in units of 2^-60: each is the root of the one before
unfoldable pub part : ℕ → ℕ
part zero = 2 ^ 61
part (suc k) = root (part k * 2 ^ 60)

-- q times p, unless the bit is 0
abbrev pub multiplied : ℕ → ℕ → ℕ → ℕ
multiplied zero q p = q
multiplied (suc b) q p = q * p / 2 ^ 60

-- 2 to the power f / 2^k, in units of 2^-60: the product of the parts of f's k bits, the highest first
unfoldable pub power_by : (ℕ → ℕ) → ℕ → ℕ → ℕ
power_by part zero f = 2 ^ 60
power_by part (suc k) f = multiplied (f % 2) (power_by part k (f / 2)) (part (suc k))

-- 2 to the power f / 1024 for f below 1024, in units of 2^-60
unfoldable pub fraction : ℕ → ℕ
fraction f = power_by part 10 f

-- 2 to the power f / 1024, in units of 2^-30
unfoldable pub mantissa : ℕ → ℕ
mantissa f = fraction f / 2 ^ 30

-- 2 to the power e / 1024, rounded down: the fraction of the place in the octave, shifted right by 60 less the octave
unfoldable pub power : ℕ → ℕ
power e = fraction (e % 1024) * 2 ^ (e / 1024) / 2 ^ 60

-- how many octaves from -d / 1024 up to 0, the octave of -d with them
abbrev pub octaves : ℕ → ℕ
octaves d = (d + 1023) / 1024

-- 2 to the power -d / 1024, rounded down, in units of 2^-30: the mantissa of the place in the octave, halved for each
-- octave up to 0; from 32 octaves on 0
unfoldable pub ex : ℕ → ℕ
ex d = if nat_lt 31 (octaves d) then 0 else mantissa (octaves d * 1024 - d) / 2 ^ octaves d

-- e is the greatest number with 2^(e/1024), rounded down, at most v
pub record IsLogarithm (v e : ℕ) : Type 0 where
  pub within : power e ≤ v
  pub above : (k : ℕ) → e < k → v < power k

-- the logarithm of a number from 1 to below 2^60, in units of 1/1024
unfoldable pub logarithm : ℕ → ℕ
logarithm v = greatest (λ e. nat_le (power e) v) 61440
