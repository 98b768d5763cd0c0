-- Sums over samples in a row. A signal is a function of its place.
use Rattle.std.specs.Prelude.{ℕ, zero, suc, ◌+◌, ◌*◌, ℤ, pos, ◌+ℤ◌, ◌*ℤ◌, unsigned_abs}

-- the sum of the n values of f from place a on
unfoldable pub sum_from : (ℕ → ℕ) → ℕ → ℕ → ℕ
sum_from f a zero = 0
sum_from f a (suc n) = sum_from f a n + f (a + n)

-- the sum of the first n values of f
unfoldable pub signed_sum : (ℕ → ℤ) → ℕ → ℤ
signed_sum f zero = pos 0
signed_sum f (suc n) = signed_sum f n +ℤ f n

-- a sample's square
abbrev pub squared : ℤ → ℕ
squared x = unsigned_abs x * unsigned_abs x

-- the energy of the n samples from place a on: the sum of their squares
abbrev pub energy : (ℕ → ℤ) → ℕ → ℕ → ℕ
energy s a n = sum_from (λ i. squared (s i)) a n

-- the sum of their sizes
abbrev pub magnitude : (ℕ → ℤ) → ℕ → ℕ → ℕ
magnitude s a n = sum_from (λ i. unsigned_abs (s i)) a n

-- the correlation of the n samples of r from place a on with those of s from place b on: the sum of their products
abbrev pub correlation : (ℕ → ℤ) → (ℕ → ℤ) → ℕ → ℕ → ℕ → ℤ
correlation r s a b n = signed_sum (λ i. r (a + i) *ℤ s (b + i)) n
