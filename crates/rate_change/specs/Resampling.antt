-- Samples at 48000 Hz from samples at another rate. Between two samples of the input, part f of up behind the first of
-- them, stands the sum of 32 of them by their weights, over the sum of the weights. Each weight is the height of a sine
-- wave over its distance, under the square of a cosine that is 0 at a distance of 16 samples.
use Rattle.std.specs.Prelude.{◌≡◌, ℕ, zero, suc, ◌*◌, ◌/◌, ◌%◌, ◌<◌, ℤ, pos, negsuc, ◌+ℤ◌, ◌-ℤ◌, ◌*ℤ◌, unsigned_abs, int_div, List, length}
use Rattle.std.specs.Int.{int_max, int_min, int_div_euclid, int_rem_euclid}
use Rattle.fixed_math.specs.Circle.{cosine, sine}
use Rattle.fixed_math.specs.Items.{item, listed}
use Rattle.fixed_math.specs.Rounding.{rounded}
use Rattle.rate_change.specs.Rates.{outputs_of}

-- from part f to the sample j places on, in parts of which a sample has up
abbrev pub distance : ℕ → ℕ → ℤ → ℤ
distance up f j = j *ℤ pos up -ℤ pos f

-- in Q15; 3840 is a quarter of the circle
unfoldable pub window_cosine : ℕ → ℤ → ℤ
window_cosine up d = cosine (240 * unsigned_abs d / up)

-- in Q15, half of the circle to each sample
unfoldable pub wave : ℕ → ℤ → ℤ
wave up d = sine (unsigned_abs (int_rem_euclid (int_div (pos 7680 *ℤ d) (pos up)) (pos 15360)))

-- the wave under the window (Q34)
unfoldable pub height : ℕ → ℤ → ℤ
height up d = rounded (window_cosine up d *ℤ window_cosine up d) 15 *ℤ wave up d *ℤ pos 16

abbrev pub weight_at : ℕ → ℤ → ℤ
weight_at up d = int_div (height up d) d

abbrev pub weight : ℕ → ℕ → ℤ → ℤ
weight up f j = weight_at up (distance up f j)

-- What stands j places on, in a list of 32 items that begins 15 places before.
abbrev pub in_window : List ℤ → ℤ → ℤ
in_window window j = item window (unsigned_abs (j +ℤ pos 15))

-- the sum of the first n of g(-15), g(-14), ..
unfoldable pub first_sum : (ℤ → ℤ) → ℕ → ℤ
first_sum g zero = pos 0
first_sum g (suc n) = first_sum g n +ℤ g (pos n -ℤ pos 15)

-- g(-15) + .. + g(16)
abbrev pub sum_around : (ℤ → ℤ) → ℤ
sum_around g = first_sum g 32

-- samples by their weights, the list of either 32 items from 15 places before
abbrev pub weighted : List ℤ → List ℤ → ℤ → ℤ
weighted weights window j = in_window weights j *ℤ in_window window j

abbrev pub divisor : ℕ → ℕ → ℤ
divisor up f = int_max (sum_around (weight up f)) (pos 1)

-- the nearest number of 16 bits
abbrev pub saturated : ℤ → ℤ
saturated z = int_max (negsuc 32767) (int_min z (pos 32767))

-- z / n, rounded to the nearest whole number, halves upwards
abbrev pub nearest : ℤ → ℤ → ℤ
nearest z n = int_div_euclid (pos 2 *ℤ z +ℤ n) (pos 2 *ℤ n)

-- the sample part f behind s(0), where s(j) is the sample j places on
unfoldable pub between : ℕ → ℕ → (ℤ → ℤ) → ℤ
between up zero s = s (pos 0)
between up (suc f) s = saturated (nearest (sum_around (λ j. weight up (suc f) j *ℤ s j)) (divisor up (suc f)))

-- a sample of the input; there are zeros before and behind it
abbrev pub input_at : List ℤ → ℤ → ℤ
input_at input (pos p) = item input p
input_at input (negsuc p) = pos 0

-- sample k at 48000 Hz
abbrev pub output_at : ℕ → ℕ → List ℤ → ℕ → ℤ
output_at up down input k = between up (k * down % up) (λ j. input_at input (pos (k * down / up) +ℤ j))

-- all of them
abbrev pub resampled : ℕ → ℕ → List ℤ → List ℤ
resampled up down input = listed (outputs_of up down (length input)) (output_at up down input)

-- the window of the 32 samples around place i, from 15 places before to 16 behind
pub record IsWindow (input : List ℤ) (i : ℕ) (window : List ℤ) : Type 0 where
  pub each : (t : ℕ) → t < 32 → item window t ≡ input_at input (pos i +ℤ (pos t -ℤ pos 15))
