-- The pitch of a frame, from which an encoder sets the post-filter (RFC 6716, 4.3.7.1): of the lags of 15 to 1022 samples
-- the one with the greatest square of the correlation over the energy. Gains are in units of 2^-15.
use Rattle.std.specs.Prelude.{◌≡◌, ℕ, zero, suc, ◌+◌, ◌-◌, ◌*◌, ◌%◌, ◌^◌, ◌<◌, ◌≤◌, nat_eq, nat_lt, nat_le, Bool, false, not, ◌||◌, ◌&&◌, if◌then◌else◌, ℤ, pos, negsuc, ◌+ℤ◌}
use Rattle.std.specs.Int.{int_shr}
use Rattle.celt_base.specs.declared.state.Setting.{Setting}
use Rattle.celt_analysis.specs.Sums.{energy, correlation}

-- a number that is above 0, and 0 for each other
abbrev pub positive_part : ℤ → ℕ
positive_part (pos n) = n
positive_part (negsuc n) = 0

-- The frame is n samples of s from place f on. At a lag of t: its correlation with the samples t before, 0 where it is
-- below 0, and the energy of those.
abbrev pub correlation_at : (ℕ → ℤ) → ℕ → ℕ → ℕ → ℕ
correlation_at s f n t = positive_part (correlation s s f (f - t) n)

abbrev pub energy_at : (ℕ → ℤ) → ℕ → ℕ → ℕ → ℕ
energy_at s f n t = energy s (f - t) n

-- ---- the best of numbered candidates, c being their correlations and e their energies

abbrev pub is_candidate : (ℕ → ℕ) → (ℕ → ℕ) → ℕ → Bool
is_candidate c e i = nat_lt 0 (c i) && nat_lt 0 (e i)

-- i is better than j: the square of its correlation over its energy is greater
abbrev pub is_better : (ℕ → ℕ) → (ℕ → ℕ) → ℕ → ℕ → Bool
is_better c e i j = nat_lt (c j * c j * e i) (c i * c i * e j)

-- some candidate of the first k is better than j
unfoldable pub is_beaten : (ℕ → ℕ) → (ℕ → ℕ) → ℕ → ℕ → Bool
is_beaten c e zero j = false
is_beaten c e (suc k) j = (is_candidate c e k && is_better c e k j) || is_beaten c e k j

-- the least number below n that passes a test; n where none does
unfoldable pub least : (ℕ → Bool) → ℕ → ℕ
least test zero = 0
least test (suc n) = if test 0 then 0 else suc (least (λ i. test (suc i)) n)

-- the first candidate of n that none is better than; n where there is no candidate
unfoldable pub first_best : (ℕ → ℕ) → (ℕ → ℕ) → ℕ → ℕ
first_best c e n = least (λ j. is_candidate c e j && not (is_beaten c e n j)) n

-- ---- the setting

-- the greatest k up to n for which k steps of gain are at most half the correlation over the energy
unfoldable pub gain_steps : ℕ → ℕ → ℕ → ℕ
gain_steps c e zero = 0
gain_steps c e (suc n) = if nat_le (3072 * suc n * e) (16384 * c) then suc n else gain_steps c e n

-- the gain for a correlation c, the energies e of the samples before and o of the frame; 0 is off
abbrev pub gain_for : ℕ → ℕ → ℕ → ℕ
gain_for c e o = if nat_le (e * o) (2 * (c * c)) then 3072 * gain_steps c e 8 else 0

-- the candidates are the lags from 15 on
abbrev pub correlations : (ℕ → ℤ) → ℕ → ℕ → ℕ → ℕ
correlations s f n i = correlation_at s f n (15 + i)

abbrev pub energies : (ℕ → ℤ) → ℕ → ℕ → ℕ → ℕ
energies s f n i = energy_at s f n (15 + i)

-- the number of the best one; 1008 where there is none
unfoldable pub best_candidate : (ℕ → ℤ) → ℕ → ℕ → ℕ
best_candidate s f n = first_best (correlations s f n) (energies s f n) 1008

unfoldable pub gain_of : (ℕ → ℤ) → ℕ → ℕ → ℕ
gain_of s f n = if nat_lt (best_candidate s f n) 1008 then gain_for (correlations s f n (best_candidate s f n)) (energies s f n (best_candidate s f n)) (energy s f n) else 0

-- the setting of the post-filter for the frame of n samples of s from place f on
pub record IsPitch (s : ℕ → ℤ) (f n : ℕ) (r : Setting) : Type 0 where
  pub period : r.period ≡ (if nat_lt 0 (gain_of s f n) then 15 + best_candidate s f n else 15)
  pub gain : r.gain ≡ gain_of s f n
  pub tapset : r.tapset ≡ 0

-- ---- the window of a frame: 1145 samples of each channel and those of the frame, channels interleaved

-- its samples from the 124th on, of the one channel or the middle of the two, halves downwards: 1022 and the frame's
unfoldable pub downmix : ℕ → (ℕ → ℤ) → ℕ → ℤ
downmix channels w i = if nat_eq channels 1 then w (123 + i) else int_shr (w (2 * (123 + i)) +ℤ w (2 * (123 + i) + 1)) 1

-- the setting for the frame of a window, of 120 * 2^lm samples
abbrev pub IsPitchOf : ℕ → ℕ → (ℕ → ℤ) → Setting → Type 0
IsPitchOf channels lm w r = IsPitch (downmix channels w) 1022 (120 * 2 ^ lm) r

-- ---- in plain words

-- Of the lags of 15 to 1022 with a correlation and an energy, t has the greatest square of the correlation over the energy,
-- and each lag before it a smaller one.
pub record IsBestLag (s : ℕ → ℤ) (f n t : ℕ) : Type 0 where
  pub low : 15 ≤ t
  pub high : t ≤ 1022
  pub correlated : 0 < correlation_at s f n t
  pub heard : 0 < energy_at s f n t
  pub greatest :
      (u : ℕ) → 15 ≤ u → u ≤ 1022 → 0 < correlation_at s f n u → 0 < energy_at s f n u
      → correlation_at s f n u * correlation_at s f n u * energy_at s f n t ≤ correlation_at s f n t * correlation_at s f n t * energy_at s f n u
  pub first :
      (u : ℕ) → 15 ≤ u → u < t → 0 < correlation_at s f n u → 0 < energy_at s f n u
      → correlation_at s f n u * correlation_at s f n u * energy_at s f n t < correlation_at s f n t * correlation_at s f n t * energy_at s f n u

-- the gain for a correlation c and the energies e and o: the greatest of 1 to 8 steps of 3072 that is at most half of c / e,
-- where twice the square of c is at least the product of the energies
pub record IsGain (c e o gain : ℕ) : Type 0 where
  pub strong : e * o ≤ 2 * (c * c)
  pub steps : gain % 3072 ≡ 0
  pub least : 3072 ≤ gain
  pub most : gain ≤ 24576
  pub within : gain * e ≤ 16384 * c
  pub greatest : gain < 24576 → 16384 * c < (gain + 3072) * e
