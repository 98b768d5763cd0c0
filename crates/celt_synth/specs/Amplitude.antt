-- From shapes to a spectrum (RFC 6716, 4.3.6). Shapes are Q14, the spectrum Q12.
use Rattle.std.specs.Prelude.{◌≡◌, ◌⊎◌, ◌<◌, ◌≤◌, ℕ, zero, suc, ◌+◌, ◌*◌, ◌/◌, nat_lt, nat_le, nat_eq, if◌then◌else◌, ℤ, pos, ◌+ℤ◌, ◌-ℤ◌, ◌*ℤ◌, unsigned_abs, List, get_or, slice_index, length}
use Rattle.std.specs.Int.{int_min}
use Rattle.celt_tables.specs.Tables.{edge_of}
use Rattle.celt_tables.specs.declared.energies.TheConstants.{MEANS}
use Rattle.fixed_math.specs.Items.{item, listed}
use Rattle.fixed_math.specs.Powers.{mantissa}
use Rattle.fixed_math.specs.Rounding.{rounded}
use Rattle.post_filter.specs.Comb.{limited}
use Rattle.post_filter.specs.Samples.{octave, place}

-- the power of two of a band: its energy and the band's mean, at most 32
unfoldable pub power_at : ℤ → ℕ → ℤ
power_at e b = int_min (e +ℤ pos (64 * slice_index MEANS b)) (pos 32768)

-- a product by a mantissa, shifted and rounded
unfoldable pub shifted : ℤ → ℕ → ℤ
shifted z zero = z
shifted z (suc s) = rounded z (suc s)

-- an item times two to the power E / 1024, within 2^30
unfoldable pub amplified : ℤ → ℤ → ℤ
amplified power x = limited (shifted (x *ℤ pos (mantissa (place power))) (unsigned_abs (pos 32 -ℤ octave power)))

-- how many of the first n bands end at or before place q of a frame of 120 samples: the band of the place
unfoldable pub bands_before : ℕ → ℕ → ℕ
bands_before zero q = 0
bands_before (suc n) q = bands_before n q + (if nat_le (edge_of (suc n)) q then 1 else 0)

abbrev pub band_of : ℕ → ℕ
band_of q = bands_before 21 q

-- an item of the spectrum of 120 m items; bands from end on are 0
unfoldable pub spectrum_item : ℕ → ℕ → List ℤ → List ℤ → ℕ → ℤ
spectrum_item m end row xs p =
    if nat_lt p (m * edge_of end)
    then amplified (power_at (get_or row (band_of (p / m)) (pos 0)) (band_of (p / m))) (item xs p)
    else pos 0

abbrev pub spectrum_of : ℕ → ℕ → List ℤ → List ℤ → List ℤ
spectrum_of m end row xs = listed (120 * m) (spectrum_item m end row xs)

-- the places from one on and below another hold the products of x's items there, and all other places are as before
pub record IsScaled (mantissa shift : ℕ) (xs : List ℤ) (from to : ℕ) (old new : List ℤ) : Type 0 where
  pub count : length new ≡ length old
  pub here : (p : ℕ) → from ≤ p → p < to → item new p ≡ limited (shifted (item xs p *ℤ pos mantissa) shift)
  pub others : (p : ℕ) → (p < from) ⊎ (to ≤ p) → item new p ≡ item old p
