-- The MDCT of N items, N being 120, 240, 480 or 960, and its window (RFC 6716, 4.3.7). A transform of N items is one of N/2
-- complex ones between two turns.
use Rattle.std.specs.Prelude.{◌≡◌, ◌⊎◌, ℕ, ◌+◌, ◌-◌, ◌*◌, ◌/◌, ◌%◌, nat_eq, nat_lt, if◌then◌else◌, ℤ, pos, negsuc, neg_ℤ, ◌+ℤ◌, ◌-ℤ◌, ◌*ℤ◌, List}
use Rattle.celt_tables.specs.Tables.{window_entry}
use Rattle.fixed_math.specs.Items.{item, listed}
use Rattle.fixed_math.specs.Rounding.{rounded}
use Rattle.mdct_fixed.specs.declared.complex.Complex.{Complex}
use Rattle.mdct_fixed.specs.Numbers.{turned}
use Rattle.mdct_fixed.specs.Transform.{fourier}

abbrev pub IsSize : ℕ → Type 0
IsSize n = (n ≡ 120) ⊎ ((n ≡ 240) ⊎ ((n ≡ 480) ⊎ (n ≡ 960)))

-- the angle of item k of both turns: 8 k + 1 parts of 8 N to the circle
abbrev pub turn_angle : ℕ → ℕ → ℕ
turn_angle n k = (8 * k + 1) * (960 / n)

-- items from both ends, paired and turned
unfoldable pub turned_pairs : ℕ → (ℕ → ℤ) → ℕ → Complex
turned_pairs n s i = turned (record { re = s (2 * i); im = s (n - 1 - 2 * i) }) (turn_angle n i)

-- their transform, turned again
unfoldable pub turned_back : ℕ → (ℕ → ℤ) → ℕ → Complex
turned_back n s k = turned (fourier (n / 2) (turned_pairs n s) k) (turn_angle n k)

-- real parts stand at even places, and imaginary ones, with the other sign, at odd places from the end on
unfoldable pub kernel : ℕ → (ℕ → ℤ) → ℕ → ℤ
kernel n s i = if nat_eq (i % 2) 0 then (turned_back n s (i / 2)).re else neg_ℤ (turned_back n s ((n - 1 - i) / 2)).im

-- the 2 N values that N items stand for
unfoldable pub unfolded : ℕ → (ℕ → ℤ) → ℕ → ℤ
unfolded n q i =
    if nat_lt i (n / 2)
    then q (i + n / 2)
    else if nat_lt i (3 * (n / 2))
    then neg_ℤ (q (3 * (n / 2) - 1 - i))
    else neg_ℤ (q (i - 3 * (n / 2)))

abbrev pub weighted : ℤ → ℕ → ℤ
weighted v k = rounded (v *ℤ pos (window_entry k)) 15

-- N + 120 values under the window: its rising half over the first 120, its falling half over the last
unfoldable pub windowed : ℕ → (ℕ → ℤ) → ℕ → ℤ
windowed n z t = if nat_lt t 120 then weighted (z t) t else if nat_lt t n then z t else weighted (z t) (n + 119 - t)

-- the N + 120 values in the middle of those that the items stand for, under the window
unfoldable pub inverse_value : ℕ → (ℕ → ℤ) → ℕ → ℤ
inverse_value n s t = windowed n (λ u. unfolded n (kernel n s) ((n - 120) / 2 + u)) t

abbrev pub inverse_of : ℕ → List ℤ → List ℤ
inverse_of n xs = listed (n + 120) (inverse_value n (item xs))

-- N + 120 values in the middle of 2 N, of which the others are 0
unfoldable pub placed : ℕ → (ℕ → ℤ) → ℕ → ℤ
placed n z i = if nat_lt i ((n - 120) / 2) then pos 0 else if nat_lt (i - (n - 120) / 2) (n + 120) then z (i - (n - 120) / 2) else pos 0

-- 2 N values folded to N
unfoldable pub folded : ℕ → (ℕ → ℤ) → ℕ → ℤ
folded n x m =
    if nat_lt m (n / 2)
    then neg_ℤ (x (3 * (n / 2) - 1 - m)) -ℤ x (3 * (n / 2) + m)
    else x (m - n / 2) -ℤ x (3 * (n / 2) - 1 - m)

-- the greatest whole number that is not above z / d
unfoldable pub floored : ℤ → ℕ → ℤ
floored (pos a) d = pos (a / d)
floored (negsuc a) d = negsuc (a / d)

-- an item over N / 2, rounded
abbrev pub scaled : ℕ → ℤ → ℤ
scaled n q = floored (pos 4 *ℤ q +ℤ pos n) (2 * n)

unfoldable pub forward_value : ℕ → (ℕ → ℤ) → ℕ → ℤ
forward_value n v k = scaled n (kernel n (folded n (placed n (windowed n v))) k)

abbrev pub forward_of : ℕ → List ℤ → List ℤ
forward_of n xs = listed n (forward_value n (item xs))
