-- Anti-collapse (RFC 6716, 4.3.5): the blocks of a transient's band that got no pulse are filled with noise of a level that
-- the energies before allow. Shapes are Q14, gains Q30, energies Q10.
use Rattle.std.specs.Prelude.{◌≡◌, ◌<◌, ◌≤◌, ℕ, zero, suc, ◌+◌, ◌-◌, ◌*◌, ◌/◌, ◌%◌, ◌^◌, min, nat_eq, nat_lt, if◌then◌else◌, ℤ, pos, neg_ℤ, ◌-ℤ◌, unsigned_abs, List, length}
use Rattle.std.specs.Int.{int_max, int_min}
use Rattle.fixed_math.specs.Items.{item, listed}
use Rattle.fixed_math.specs.Powers.{ex}
use Rattle.fixed_math.specs.Root.{root}
use Rattle.fixed_math.specs.Unit.{unit_of}
use Rattle.spread_fold.specs.Noise.{seed_after}

-- the greatest level that the band's bits leave: n items, and so many eighths of a bit
unfoldable pub threshold : ℕ → ℕ → ℕ
threshold n pulses = ex (128 * ((1 + pulses) / n)) / 2

-- how much the energy is above the less of the two before it
unfoldable pub rise : ℤ → ℤ → ℤ → ℕ
rise e p1 p2 = unsigned_abs (int_max (e -ℤ int_min p1 p2) (pos 0))

-- the level that the rise leaves
unfoldable pub decay : ℕ → ℕ → ℕ
decay lm d = if nat_eq lm 3 then 2 * ex d * 23170 / 2 ^ 14 else 2 * ex d

unfoldable pub level : ℕ → ℕ → ℕ → ℕ → ℕ
level lm n pulses d = min (threshold n pulses) (decay lm d) / 2 ^ 6 / root (n * 2 ^ 20)

-- bit k of a mask
abbrev pub bit : ℕ → ℕ → ℕ
bit mask k = mask / 2 ^ k % 2

-- how many of the first k blocks are empty
unfoldable pub empties : ℕ → ℕ → ℕ
empties mask zero = 0
empties mask (suc k) = empties mask k + (if nat_eq (bit mask k) 0 then 1 else 0)

-- the level with the sign that bit 15 of the noise's state gives
abbrev pub signed : ℕ → ℕ → ℤ
signed level seed = if nat_eq (seed / 32768 % 2) 1 then pos level else neg_ℤ (pos level)

-- A band of m blocks of w items: item j*m + k is item j of block k. In each empty block in turn each item takes a step of
-- the noise and becomes the level.
unfoldable pub filled_item : ℕ → ℕ → ℕ → ℕ → ℕ → List ℤ → ℕ → ℤ
filled_item m w mask level seed xs p =
    if nat_eq (bit mask (p % m)) 0
    then signed level (seed_after (w * empties mask (p % m) + suc (p / m)) seed)
    else item xs p

abbrev pub filled : ℕ → ℕ → ℕ → ℕ → ℕ → List ℤ → List ℤ
filled m w mask level seed xs = listed (length xs) (filled_item m w mask level seed xs)

-- where any block was filled the band becomes a unit vector
unfoldable pub uncollapsed : ℕ → ℕ → ℕ → ℕ → ℕ → List ℤ → List ℤ
uncollapsed m w mask level seed xs =
    if nat_eq (empties mask m) 0 then filled m w mask level seed xs else unit_of (pos 32768) (filled m w mask level seed xs)

unfoldable pub seed_uncollapsed : ℕ → ℕ → ℕ → ℕ → ℕ
seed_uncollapsed m w mask seed = seed_after (w * empties mask m) seed

-- of the first n blocks the empty ones are filled, and all else is as before
pub record IsFilled (m w mask level seed : ℕ) (old new : List ℤ) (n : ℕ) : Type 0 where
  pub count : length new ≡ length old
  pub done : (p : ℕ) → p < m * w → p % m < n → item new p ≡ filled_item m w mask level seed old p
  pub ahead : (p : ℕ) → n ≤ p % m → item new p ≡ item old p

-- the first n blocks, so filled: with the noise's state and how many were empty
pub record IsFilling (m w mask level seed : ℕ) (old new : List ℤ) (n state count : ℕ) : Type 0 where
  pub filled : IsFilled m w mask level seed old new n
  pub stepped : state ≡ seed_after (w * empties mask n) seed
  pub counted : count ≡ empties mask n
  pub few : count ≤ n
