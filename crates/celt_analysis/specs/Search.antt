-- What a search of candidates finds, c being their correlations and e their energies.
use Rattle.std.specs.Prelude.{◌≡◌, ℕ, ◌+◌, ◌-◌, ◌*◌, ◌<◌, ◌≤◌, nat_lt, Bool, true, false, ◌&&◌, ℤ, ◌-ℤ◌, ◌*ℤ◌, unsigned_abs}
use Rattle.celt_analysis.specs.Pitch.{is_candidate}
use Rattle.celt_analysis.specs.Sums.{correlation}

-- A candidate's square of the correlation over its energy is above s over o; with a slack of 1 it may be equal.
abbrev pub reaches : ℕ → ℕ → ℕ → ℕ → ℕ → Bool
reaches slack s o c e = (nat_lt 0 c && nat_lt 0 e) && nat_lt (s * e) (c * c * o + slack)

-- r is the first of the candidates from `from` to below n that reaches the ratio; n where none does
pub record IsNext (c e : ℕ → ℕ) (slack s o from n r : ℕ) : Type 0 where
  pub low : from ≤ r
  pub high : r ≤ n
  pub passed : (i : ℕ) → from ≤ i → i < r → reaches slack s o (c i) (e i) ≡ false
  pub met : r < n → reaches slack s o (c r) (e r) ≡ true

-- of the first n candidates none is better than r, which is better than each before it
pub record IsBest (c e : ℕ → ℕ) (n r : ℕ) : Type 0 where
  pub within : r < n
  pub candidate : is_candidate c e r ≡ true
  pub greatest : (i : ℕ) → i < n → is_candidate c e i ≡ true → c i * c i * e r ≤ c r * c r * e i
  pub first : (i : ℕ) → i < r → is_candidate c e i ≡ true → c i * c i * e r < c r * c r * e i

-- r is the best of n candidates if one reaches the ratio; n where none does
pub record IsBestFrom (c e : ℕ → ℕ) (s o n r : ℕ) : Type 0 where
  pub high : r ≤ n
  pub none : r ≡ n → (i : ℕ) → i < n → reaches 1 s o (c i) (e i) ≡ false
  pub best : r < n → IsBest c e n r
  pub met : r < n → reaches 1 s o (c r) (e r) ≡ true

-- The estimate of a correlation, in steps, is at most the error away from it: at the lag of 15 + i, for a frame of n samples
-- of s behind 1022 others.
abbrev pub IsNear : (ℕ → ℤ) → ℕ → ℕ → ℤ → ℤ → ℤ → Type 0
IsNear s n i sum scale error = unsigned_abs (correlation s s 1022 (1022 - (15 + i)) n -ℤ sum *ℤ scale) ≤ unsigned_abs error

-- estimates that stand at the places of the samples before
abbrev pub AreNear : (ℕ → ℤ) → ℕ → (ℕ → ℤ) → ℤ → ℤ → Type 0
AreNear s n sums scale error = (i : ℕ) → i < 1008 → IsNear s n i (sums (1022 - (15 + i))) scale error
