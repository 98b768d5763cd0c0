-- Turns of complex numbers: what their steps fit into, and quarters of the circle.
use Rattle.std.proofs.Common.{◌≡◌, ℕ, ◌*◌, ◌^◌, ◌<◌, ◌≤◌, sym, subst, ◌-◌, arith, ap, ◌∙◌}
use Rattle.std.specs.Prelude.{ℤ, pos, neg_ℤ, ◌+ℤ◌, ◌-ℤ◌, ◌*ℤ◌, unsigned_abs, FitsSigned}
use Rattle.std.specs.Int.{int_shr, w64}
use Rattle.std.proofs.lemmas.Int.{ints, fits_signed_from_abs}
use Rattle.fixed_math.specs.Rounding.{rounded}
use Rattle.fixed_math.proofs.IntLemmas.{*ℤ-neg_ℤ}
use Rattle.fixed_math.proofs.RoundingLemmas.{product_within, shr_within, turn_within}
use Rattle.mdct_fixed.specs.declared.complex.Complex.{Complex}
use Rattle.mdct_fixed.specs.declared.complex.Angle.{Angle}
use Rattle.mdct_fixed.specs.Numbers.{product, spun, IsWithin, IsSmall}

fits : (z : ℤ) → unsigned_abs z < 2 ^ 63 → FitsSigned w64 z
fits z h = fits_signed_from_abs w64 z h

-- ---- the products of a turn

pub record ProductSteps (z : Complex) (w : Angle) : Type 0 where
  pub re : FitsSigned w64 z.re
  pub im : FitsSigned w64 z.im
  pub cosine : FitsSigned w64 w.cosine
  pub sine : FitsSigned w64 w.sine
  pub first : unsigned_abs (z.re *ℤ w.cosine) ≤ 2 ^ 61
  pub second : unsigned_abs (z.im *ℤ w.sine) ≤ 2 ^ 61
  pub third : unsigned_abs (z.im *ℤ w.cosine) ≤ 2 ^ 61
  pub fourth : unsigned_abs (z.re *ℤ w.sine) ≤ 2 ^ 61
  pub first_fits : FitsSigned w64 (z.re *ℤ w.cosine)
  pub second_fits : FitsSigned w64 (z.im *ℤ w.sine)
  pub third_fits : FitsSigned w64 (z.im *ℤ w.cosine)
  pub fourth_fits : FitsSigned w64 (z.re *ℤ w.sine)
  pub sum : FitsSigned w64 (z.re *ℤ w.cosine +ℤ z.im *ℤ w.sine)
  pub difference : FitsSigned w64 (z.im *ℤ w.cosine -ℤ z.re *ℤ w.sine)

pub product_steps : (z : Complex) (w : Angle) → IsWithin (2 ^ 46) z → IsSmall w → ProductSteps z w
product_steps z w h s =
    let a : unsigned_abs (z.re *ℤ w.cosine) ≤ 2 ^ 61 = product_within z.re w.cosine (2 ^ 46) (2 ^ 15) h.re s.cosine in
    let b : unsigned_abs (z.im *ℤ w.sine) ≤ 2 ^ 61 = product_within z.im w.sine (2 ^ 46) (2 ^ 15) h.im s.sine in
    let d : unsigned_abs (z.im *ℤ w.cosine) ≤ 2 ^ 61 = product_within z.im w.cosine (2 ^ 46) (2 ^ 15) h.im s.cosine in
    let e : unsigned_abs (z.re *ℤ w.sine) ≤ 2 ^ 61 = product_within z.re w.sine (2 ^ 46) (2 ^ 15) h.re s.sine in
    let hr = h.re in
    let hi = h.im in
    let sc = s.cosine in
    let ss = s.sine in
    record {
      re = fits z.re (omega arith);
      im = fits z.im (omega arith);
      cosine = fits w.cosine (omega arith);
      sine = fits w.sine (omega arith);
      first = a;
      second = b;
      third = d;
      fourth = e;
      first_fits = fits (z.re *ℤ w.cosine) (omega arith);
      second_fits = fits (z.im *ℤ w.sine) (omega arith);
      third_fits = fits (z.im *ℤ w.cosine) (omega arith);
      fourth_fits = fits (z.re *ℤ w.sine) (omega arith);
      sum = fits (z.re *ℤ w.cosine +ℤ z.im *ℤ w.sine) (omega (arith, ints));
      difference = fits (z.im *ℤ w.cosine -ℤ z.re *ℤ w.sine) (omega (arith, ints));
    }

pub product_size : (z : Complex) (w : Angle) → IsWithin (2 ^ 46) z → IsSmall w → IsWithin (2 ^ 62) (product z w.cosine w.sine)
product_size z w h s =
    let t = product_steps z w h s in
    let a = t.first in
    let b = t.second in
    let d = t.third in
    let e = t.fourth in
    record { re = omega (arith, ints); im = omega (arith, ints) }

-- a turned number is at most twice as large
pub spun_within : (z : Complex) (c s : ℤ) (n : ℕ) → IsWithin n z → unsigned_abs c ≤ 2 ^ 15 → unsigned_abs s ≤ 2 ^ 15 → IsWithin (2 * n) (spun z c s)
spun_within z c s n h p q =
    let o : unsigned_abs (neg_ℤ s) ≤ 2 ^ 15 = omega (arith, ints) in
    let e : z.im *ℤ c +ℤ z.re *ℤ neg_ℤ s ≡ z.im *ℤ c -ℤ z.re *ℤ s = ap (λ v. z.im *ℤ c +ℤ v) (*ℤ-neg_ℤ z.re s) in
    let a = turn_within z.im c z.re (neg_ℤ s) n h.im h.re p o in
    record {
      re = turn_within z.re c z.im s n h.re h.im p q;
      im = subst (λ v. unsigned_abs (rounded v 15) ≤ 2 * n) e a;
    }

-- ---- both ways at once

pub record BothSteps (z : Complex) (w : Angle) : Type 0 where
  pub along : FitsSigned w64 (z.re *ℤ w.cosine +ℤ pos 16384)
  pub sum : FitsSigned w64 (z.re *ℤ w.cosine +ℤ pos 16384 +ℤ z.im *ℤ w.sine)
  pub difference : FitsSigned w64 (z.re *ℤ w.cosine +ℤ pos 16384 -ℤ z.im *ℤ w.sine)
  pub ahead : FitsSigned w64 (int_shr (z.re *ℤ w.cosine +ℤ pos 16384 +ℤ z.im *ℤ w.sine) 15)
  pub behind : FitsSigned w64 (int_shr (z.re *ℤ w.cosine +ℤ pos 16384 -ℤ z.im *ℤ w.sine) 15)
  pub ahead_size : unsigned_abs (int_shr (z.re *ℤ w.cosine +ℤ pos 16384 +ℤ z.im *ℤ w.sine) 15) ≤ 2 ^ 48
  pub behind_size : unsigned_abs (int_shr (z.re *ℤ w.cosine +ℤ pos 16384 -ℤ z.im *ℤ w.sine) 15) ≤ 2 ^ 48
  pub ahead_is : int_shr (z.re *ℤ w.cosine +ℤ pos 16384 +ℤ z.im *ℤ w.sine) 15 ≡ (spun z w.cosine w.sine).re
  pub behind_is : int_shr (z.re *ℤ w.cosine +ℤ pos 16384 -ℤ z.im *ℤ w.sine) 15 ≡ (spun z w.cosine (neg_ℤ w.sine)).re

shifted_sum : (p q : ℤ) → int_shr (p +ℤ pos 16384 +ℤ q) 15 ≡ rounded (p +ℤ q) 15
shifted_sum p q =
    let e : p +ℤ pos 16384 +ℤ q ≡ p +ℤ q +ℤ pos 16384 = omega (arith, ints) in
    ap (λ v. int_shr v 15) e

shifted_difference : (p q r : ℤ) → r ≡ neg_ℤ q → int_shr (p +ℤ pos 16384 -ℤ q) 15 ≡ rounded (p +ℤ r) 15
shifted_difference p q r h =
    let e : p +ℤ pos 16384 -ℤ q ≡ p +ℤ r +ℤ pos 16384 = omega (arith, ints) in
    ap (λ v. int_shr v 15) e

pub both_steps : (z : Complex) (w : Angle) → IsWithin (2 ^ 46) z → IsSmall w → BothSteps z w
both_steps z w h s =
    let t = product_steps z w h s in
    let a = t.first in
    let b = t.second in
    let ss = s.sine in
    let o : unsigned_abs (neg_ℤ w.sine) ≤ 2 ^ 15 = omega (arith, ints) in
    let u : unsigned_abs (z.re *ℤ w.cosine +ℤ pos 16384 +ℤ z.im *ℤ w.sine) ≤ 2 ^ 63 - 1 = omega (arith, ints) in
    let v : unsigned_abs (z.re *ℤ w.cosine +ℤ pos 16384 -ℤ z.im *ℤ w.sine) ≤ 2 ^ 63 - 1 = omega (arith, ints) in
    record {
      along = fits (z.re *ℤ w.cosine +ℤ pos 16384) (omega (arith, ints));
      sum = fits (z.re *ℤ w.cosine +ℤ pos 16384 +ℤ z.im *ℤ w.sine) (omega arith);
      difference = fits (z.re *ℤ w.cosine +ℤ pos 16384 -ℤ z.im *ℤ w.sine) (omega arith);
      ahead = fits _ (omega (arith, shr_within (z.re *ℤ w.cosine +ℤ pos 16384 +ℤ z.im *ℤ w.sine) 15 (2 ^ 63 - 1) u));
      behind = fits _ (omega (arith, shr_within (z.re *ℤ w.cosine +ℤ pos 16384 -ℤ z.im *ℤ w.sine) 15 (2 ^ 63 - 1) v));
      ahead_size = subst (λ v. unsigned_abs v ≤ 2 ^ 48) (sym (shifted_sum (z.re *ℤ w.cosine) (z.im *ℤ w.sine))) (omega (arith, (spun_within z w.cosine w.sine (2 ^ 46) h s.cosine s.sine).re));
      behind_size = subst (λ v. unsigned_abs v ≤ 2 ^ 48) (sym (shifted_difference (z.re *ℤ w.cosine) (z.im *ℤ w.sine) (z.im *ℤ neg_ℤ w.sine) (*ℤ-neg_ℤ z.im w.sine))) (omega (arith, (spun_within z w.cosine (neg_ℤ w.sine) (2 ^ 46) h s.cosine o).re));
      ahead_is = shifted_sum (z.re *ℤ w.cosine) (z.im *ℤ w.sine);
      behind_is = shifted_difference (z.re *ℤ w.cosine) (z.im *ℤ w.sine) (z.im *ℤ neg_ℤ w.sine) (*ℤ-neg_ℤ z.im w.sine);
    }

-- ---- quarters of the circle

pub pair_is : (a b d e : ℤ) → a ≡ d → b ≡ e → ◌≡◌ {A = Complex} (record { re = a; im = b }) (record { re = d; im = e })
pair_is a b d e p q = ap (λ v. record { re = v; im = b }) p ∙ ap (λ v. record { re = d; im = v }) q

forward_sum : (p q r : ℤ) → r ≡ neg_ℤ p → q -ℤ p ≡ r +ℤ q
forward_sum p q r h = omega (arith, ints)

back_difference : (p q r : ℤ) → r ≡ neg_ℤ q → neg_ℤ (p +ℤ q) ≡ r -ℤ p
back_difference p q r h = omega (arith, ints)

back_sum : (p q r t : ℤ) → r ≡ neg_ℤ p → t ≡ neg_ℤ q → neg_ℤ (p +ℤ q) ≡ r +ℤ t
back_sum p q r t h g = omega (arith, ints)

turned_difference : (p q r t : ℤ) → r ≡ neg_ℤ q → t ≡ neg_ℤ p → neg_ℤ (q -ℤ p) ≡ r -ℤ t
turned_difference p q r t h g = omega (arith, ints)

last_sum : (p q t : ℤ) → t ≡ neg_ℤ q → neg_ℤ (q -ℤ p) ≡ p +ℤ t
last_sum p q t h = omega (arith, ints)

last_difference : (p q t : ℤ) → t ≡ neg_ℤ p → p +ℤ q ≡ q -ℤ t
last_difference p q t h = omega (arith, ints)

-- the turns by one, two and three quarters more, by the sums a and b of the turn itself
pub one_quarter : (z : Complex) (c s up down : ℤ) → up ≡ rounded (product z c s).im 15 → down ≡ rounded (neg_ℤ (product z c s).re) 15 → ◌≡◌ {A = Complex} (record { re = up; im = down }) (spun z (neg_ℤ s) c)
one_quarter z c s up down h g =
    pair_is up down _ _
    (h ∙ ap (λ v. rounded v 15) (forward_sum (z.re *ℤ s) (z.im *ℤ c) (z.re *ℤ neg_ℤ s) (*ℤ-neg_ℤ z.re s)))
    (g ∙ ap (λ v. rounded v 15) (back_difference (z.re *ℤ c) (z.im *ℤ s) (z.im *ℤ neg_ℤ s) (*ℤ-neg_ℤ z.im s)))

pub two_quarters : (z y : Complex) (c s : ℤ) → y.re ≡ rounded (neg_ℤ (product z c s).re) 15 → y.im ≡ rounded (neg_ℤ (product z c s).im) 15 → y ≡ spun z (neg_ℤ c) (neg_ℤ s)
two_quarters z y c s h g =
    pair_is y.re y.im _ _
    (h ∙ ap (λ v. rounded v 15) (back_sum (z.re *ℤ c) (z.im *ℤ s) (z.re *ℤ neg_ℤ c) (z.im *ℤ neg_ℤ s) (*ℤ-neg_ℤ z.re c) (*ℤ-neg_ℤ z.im s)))
    (g ∙ ap (λ v. rounded v 15) (turned_difference (z.re *ℤ s) (z.im *ℤ c) (z.im *ℤ neg_ℤ c) (z.re *ℤ neg_ℤ s) (*ℤ-neg_ℤ z.im c) (*ℤ-neg_ℤ z.re s)))

pub three_quarters : (z : Complex) (c s up down : ℤ) → down ≡ rounded (neg_ℤ (product z c s).im) 15 → up ≡ rounded (product z c s).re 15 → ◌≡◌ {A = Complex} (record { re = down; im = up }) (spun z s (neg_ℤ c))
three_quarters z c s up down h g =
    pair_is down up _ _
    (h ∙ ap (λ v. rounded v 15) (last_sum (z.re *ℤ s) (z.im *ℤ c) (z.im *ℤ neg_ℤ c) (*ℤ-neg_ℤ z.im c)))
    (g ∙ ap (λ v. rounded v 15) (last_difference (z.re *ℤ c) (z.im *ℤ s) (z.re *ℤ neg_ℤ c) (*ℤ-neg_ℤ z.re c)))

-- ---- sums of three

pub record SumSteps (a b d : ℤ) : Type 0 where
  pub first : FitsSigned w64 a
  pub second : FitsSigned w64 b
  pub third : FitsSigned w64 d
  pub two : FitsSigned w64 (a +ℤ b)
  pub three : FitsSigned w64 (a +ℤ b +ℤ d)

pub sum_steps : (a b d : ℤ) → unsigned_abs a ≤ 2 ^ 61 → unsigned_abs b ≤ 2 ^ 60 → unsigned_abs d ≤ 2 ^ 60 → SumSteps a b d
sum_steps a b d p q r = record {
  first = fits a (omega arith);
  second = fits b (omega arith);
  third = fits d (omega arith);
  two = fits (a +ℤ b) (omega (arith, ints));
  three = fits (a +ℤ b +ℤ d) (omega (arith, ints));
}
