-- Numbers that pass a test: the greatest, the least, and the first from another on.
use Rattle.std.specs.Prelude.{ℕ, zero, suc, Bool, if◌then◌else◌}

-- the greatest number below n that passes; 0 where none does
unfoldable pub greatest : (ℕ → Bool) → ℕ → ℕ
greatest test zero = 0
greatest test (suc n) = if test n then n else greatest test n

-- the first of n numbers from t on that passes; t + n where none does
unfoldable pub first_from : (ℕ → Bool) → ℕ → ℕ → ℕ
first_from test zero t = t
first_from test (suc n) t = if test t then t else first_from test n (suc t)

-- the least number below n that passes; n where none does
abbrev pub least : (ℕ → Bool) → ℕ → ℕ
least test n = first_from test n 0
