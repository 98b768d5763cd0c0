-- Complex numbers of whole parts and their turns (RFC 6716, 4.3.7). Cosines and sines are in units of 2^-15.
use Rattle.std.specs.Prelude.{◌≡◌, ◌≢◌, ℕ, ◌^◌, ◌≤◌, ℤ, ◌+ℤ◌, ◌-ℤ◌, ◌*ℤ◌, unsigned_abs, List}
use Rattle.fixed_math.specs.Circle.{cosine, sine}
use Rattle.fixed_math.specs.Items.{item}
use Rattle.fixed_math.specs.Rounding.{rounded}
use Rattle.mdct_fixed.specs.declared.complex.Complex.{Complex}
use Rattle.mdct_fixed.specs.declared.complex.Angle.{Angle}

-- the item at a place of two lists of parts
abbrev pub at : List ℤ → List ℤ → ℕ → Complex
at re im i = record { re = item re i; im = item im i }

abbrev pub plus : Complex → Complex → Complex
plus a b = record { re = a.re +ℤ b.re; im = a.im +ℤ b.im }

abbrev pub swapped : Complex → Complex
swapped z = record { re = z.im; im = z.re }

-- z times the number with the parts c and -s
abbrev pub product : Complex → ℤ → ℤ → Complex
product z c s = record {
  re = z.re *ℤ c +ℤ z.im *ℤ s;
  im = z.im *ℤ c -ℤ z.re *ℤ s;
}

-- z turned by the angle with cosine c and sine s: each part is rounded once
abbrev pub spun : Complex → ℤ → ℤ → Complex
spun z c s = record {
  re = rounded (z.re *ℤ c +ℤ z.im *ℤ s) 15;
  im = rounded (z.im *ℤ c -ℤ z.re *ℤ s) 15;
}

-- z turned by angle a, 15360 to the circle
unfoldable pub turned : Complex → ℕ → Complex
turned z a = spun z (cosine a) (sine a)

abbrev pub angle_at : ℕ → Angle
angle_at a = record { cosine = cosine a; sine = sine a }

-- both parts are within n
pub record IsWithin (n : ℕ) (z : Complex) : Type 0 where
  pub re : unsigned_abs z.re ≤ n
  pub im : unsigned_abs z.im ≤ n

-- cosine and sine are at most 1
pub record IsSmall (w : Angle) : Type 0 where
  pub cosine : unsigned_abs w.cosine ≤ 2 ^ 15
  pub sine : unsigned_abs w.sine ≤ 2 ^ 15

-- item i becomes z, and all others are as they were
pub record IsPut (i : ℕ) (z : Complex) (old new : ℕ → Complex) : Type 0 where
  pub here : new i ≡ z
  pub others : (k : ℕ) → k ≢ i → new k ≡ old k
