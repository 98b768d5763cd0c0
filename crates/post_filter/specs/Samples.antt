-- Samples of 16 bits from the outputs of the de-emphasis, which are in units of 2^-12 (RFC 6716, 4.3.7.2), with
-- the output gain of the header in units of 1/256 dB (RFC 7845, 5.1).
use Rattle.std.specs.Prelude.{◌≡◌, ◌≢◌, ℕ, ◌+◌, ◌*◌, ◌<◌, if◌then◌else◌, ℤ, pos, negsuc, ◌-ℤ◌, ◌*ℤ◌, int_lt, unsigned_abs, List}
use Rattle.std.specs.Int.{int_shr}
use Rattle.fixed_math.specs.Powers.{mantissa}
use Rattle.fixed_math.specs.Rounding.{rounded}
use Rattle.fixed_math.specs.Items.{item}
use Rattle.post_filter.specs.declared.factor.Factor.{Factor}

-- the gain as a power of two, in units of 1/1024: a dB is 1024 * log2(10) / 20 of them, and 1/256 dB is 696659 / 2^20
unfoldable pub exponent : ℤ → ℤ
exponent gain = rounded (gain *ℤ pos 696659) 20

-- the whole part of an exponent, and its place behind it
unfoldable pub octave : ℤ → ℤ
octave e = int_shr e 10

unfoldable pub place : ℤ → ℕ
place e = unsigned_abs (e -ℤ pos 1024 *ℤ octave e)

-- y times 2 to the power e / 1024, from units of 2^-12 to whole ones, rounded. The mantissa is in units of 2^-30.
unfoldable pub amplified : ℤ → ℤ → ℤ
amplified e y = rounded (y *ℤ pos (mantissa (place e))) (unsigned_abs (pos 42 -ℤ octave e))

-- the factor of a gain, by which a product gives the same
pub record IsFactor (gain : ℤ) (factor : Factor) : Type 0 where
  pub times : factor.mantissa ≡ mantissa (place (exponent gain))
  pub places : factor.shift ≡ unsigned_abs (pos 42 -ℤ octave (exponent gain))

-- the nearest number of 16 bits
unfoldable pub saturated : ℤ → ℤ
saturated z = if int_lt z (negsuc 32767) then negsuc 32767 else if int_lt (pos 32767) z then pos 32767 else z

unfoldable pub sample_of : ℤ → ℤ → ℤ
sample_of gain y = saturated (amplified (exponent gain) y)

-- the samples of the first n items stand at every stride-th place from start on, and each other place is as before
pub record ArePut (gain : ℤ) (xs : List ℤ) (start stride n : ℕ) (old new : List ℤ) : Type 0 where
  pub here : (i : ℕ) → i < n → item new (start + stride * i) ≡ sample_of gain (item xs i)
  pub others : (p : ℕ) → ((i : ℕ) → i < n → p ≢ start + stride * i) → item new p ≡ item old p
