-- Samples: the parts of a gain's exponent, the products at 128 bits, and the places that are written.
use Rattle.std.proofs.Common.{◌≡◌, ◌≢◌, ℕ, ◌+◌, ◌-◌, ◌*◌, ◌/◌, ◌%◌, ◌^◌, ◌<◌, ◌≤◌, sym, inl, inr, arith, refl, ap, ◌∙◌, List, length}
use Rattle.std.specs.Prelude.{ℤ, pos, negsuc, ◌+ℤ◌, ◌-ℤ◌, ◌*ℤ◌, ◌≤ℤ◌, ◌<ℤ◌, unsigned_abs, slice_set, FitsSigned}
use Rattle.std.specs.Int.{int_shr, w16, w32, w64, w128, cast_signed as to_z}
use Rattle.std.proofs.lemmas.Nat.{mul-le, one_shl}
use Rattle.std.proofs.lemmas.Int.{ints, fits_signed_from_abs, to_z_pos}
use Rattle.std.proofs.lemmas.Bool.{cases_eq}
use Rattle.std.proofs.lemmas.List.{get_or-set_same, get_or-set_other}
use Rattle.std.proofs.Math.Nat.{pow-le-pow_right}
use Rattle.fixed_math.specs.Powers.{mantissa}
use Rattle.fixed_math.specs.Rounding.{rounded}
use Rattle.fixed_math.proofs.PowerLemmas.{fraction-first, mantissa-fraction}
use Rattle.fixed_math.proofs.RoundingLemmas.{shr_low, shr_high, shr_within, shr_scaled, product_within, round_within}
use Rattle.fixed_math.specs.Items.{item}
use Rattle.post_filter.specs.Samples.{exponent, octave, place, amplified, saturated, sample_of, ArePut}

-- the parts of an exponent
pub octave_low : (e : ℤ) → (pos 1024 *ℤ octave e) ≤ℤ e
unfolding octave
octave_low e = shr_low e 10

pub octave_high : (e : ℤ) → e <ℤ (pos 1024 *ℤ octave e +ℤ pos 1024)
unfolding octave
octave_high e = shr_high e 10

pub parts : (e : ℤ) → e ≡ pos 1024 *ℤ octave e +ℤ pos (place e)
unfolding place
parts e = omega (arith, ints, octave_low e)

pub place_small : (e : ℤ) → place e < 1024
unfolding place
place_small e = omega (arith, ints, octave_low e, octave_high e)

-- with gain 0
shift_thirty : (y : ℤ) → rounded (y *ℤ pos (2 ^ 30)) 42 ≡ rounded y 12
shift_thirty y = omega (arith, ints, shr_low (y *ℤ pos (2 ^ 30) +ℤ pos (2 ^ 41)) 42, shr_high (y *ℤ pos (2 ^ 30) +ℤ pos (2 ^ 41)) 42, shr_low (y +ℤ pos (2 ^ 11)) 12, shr_high (y +ℤ pos (2 ^ 11)) 12)

mantissa-first : mantissa 0 ≡ 2 ^ 30
mantissa-first = sym (mantissa-fraction 0) ∙ ap (λ q. q / 2 ^ 30) fraction-first

pub exponent-none : exponent (pos 0) ≡ pos 0
unfolding exponent
exponent-none = refl

pub amplified-zero : (y : ℤ) → amplified (pos 0) y ≡ rounded y 12
unfolding amplified place octave
amplified-zero y = ap (λ m. rounded (y *ℤ pos m) 42) mantissa-first ∙ shift_thirty y

pub amplified-plain : (y : ℤ) → amplified (exponent (pos 0)) y ≡ rounded y 12
amplified-plain y = ap (λ e. amplified e y) exponent-none ∙ amplified-zero y

pub sample-plain : (y : ℤ) → sample_of (pos 0) y ≡ saturated (rounded y 12)
unfolding sample_of
sample-plain y = ap saturated (amplified-plain y)

pub sample-amplified : (gain y : ℤ) (m s : ℕ) → m ≡ mantissa (place (exponent gain)) → s ≡ unsigned_abs (pos 42 -ℤ octave (exponent gain)) → saturated (rounded (y *ℤ pos m) s) ≡ sample_of gain y
unfolding sample_of amplified
sample-amplified gain y m s p q = ap (λ k. saturated (rounded (y *ℤ pos k) s)) p ∙ ap (λ k. saturated (rounded (y *ℤ pos (mantissa (place (exponent gain)))) k)) q

-- the exponents of all gains
pub exponent_size : (gain : ℤ) → unsigned_abs gain ≤ 32768 → unsigned_abs (exponent gain) ≤ 21771
unfolding exponent
exponent_size gain h = omega (arith, ints, shr_low (gain *ℤ pos 696659 +ℤ pos (2 ^ 19)) 20, shr_high (gain *ℤ pos 696659 +ℤ pos (2 ^ 19)) 20)

-- saturation
pub saturated_inside : (z : ℤ) → negsuc 32767 ≤ℤ z → z ≤ℤ pos 32767 → saturated z ≡ z
unfolding saturated
saturated_inside z p q = grind (arith, ints)

pub saturated_low : (z : ℤ) → z <ℤ negsuc 32767 → saturated z ≡ negsuc 32767
unfolding saturated
saturated_low z p = grind (arith, ints)

pub saturated_high : (z : ℤ) → pos 32767 <ℤ z → saturated z ≡ pos 32767
unfolding saturated
saturated_high z p = grind (arith, ints)

-- the code's steps at 128 bits
pub record WideSteps (y : ℤ) (m s : ℕ) : Type 0 where
  pub narrow : FitsSigned w128 y
  pub factor : to_z w128 m ≡ pos m
  pub product : FitsSigned w128 (y *ℤ pos m)
  pub half : to_z w128 (1 * 2 ^ (s - 1) % 2 ^ 128) ≡ pos (2 ^ (s - 1))
  pub half_fits : FitsSigned w128 (pos (2 ^ (s - 1)))
  pub sum : FitsSigned w128 (y *ℤ pos m +ℤ pos (2 ^ (s - 1)))
  pub shifted : FitsSigned w128 (rounded (y *ℤ pos m) s)
  pub result : FitsSigned w64 (rounded (y *ℤ pos m) s)

pub wide_steps : (y : ℤ) (m s : ℕ) → unsigned_abs y < 2 ^ 33 → m < 2 ^ 31 → 21 ≤ s → s ≤ 64 → WideSteps y m s
wide_steps y m s p q low high =
    let b : unsigned_abs (y *ℤ pos m) ≤ 2 ^ 33 * 2 ^ 31 = product_within y (pos m) (2 ^ 33) (2 ^ 31) (omega arith) (omega arith) in
    let t : s - 1 ≤ 63 = omega arith in
    let i : 2 ^ (s - 1) ≤ 2 ^ 63 = pow-le-pow_right {n = 2} (omega arith) t in
    let e : 1 * 2 ^ (s - 1) % 2 ^ 128 ≡ 2 ^ (s - 1) = one_shl (s - 1) 128 (omega arith) in
    let j : 2 ^ 21 ≤ 2 ^ s = pow-le-pow_right {n = 2} (omega arith) low in
    let k : 2 ^ 43 * 2 ^ 21 ≤ 2 ^ 43 * 2 ^ s = mul-le (2 ^ 43) (2 ^ 21) (2 ^ 43) (2 ^ s) (omega arith) j in
    let r : unsigned_abs (rounded (y *ℤ pos m) s) ≤ 2 ^ 43 = round_within (y *ℤ pos m) s (2 ^ 43) (omega arith) (omega arith) in
    record {
      narrow = fits_signed_from_abs w128 y (omega arith);
      factor = to_z_pos w128 m (omega arith);
      product = fits_signed_from_abs w128 (y *ℤ pos m) (omega arith);
      half = rw e (to_z_pos w128 (2 ^ (s - 1)) (omega arith));
      half_fits = fits_signed_from_abs w128 (pos (2 ^ (s - 1))) (omega arith);
      sum = fits_signed_from_abs w128 (y *ℤ pos m +ℤ pos (2 ^ (s - 1))) (omega (arith, ints));
      shifted = fits_signed_from_abs w128 (rounded (y *ℤ pos m) s) (omega arith);
      result = fits_signed_from_abs w64 (rounded (y *ℤ pos m) s) (omega arith);
    }

-- places apart
pub places_apart : (start stride i n : ℕ) → 1 ≤ stride → i < n → start + stride * i < start + stride * n
places_apart start stride i n s h =
    let m : stride * (i + 1) ≤ stride * n = mul-le stride (i + 1) stride n (omega arith) (omega arith) in
    omega arith

pub put_start : (gain : ℤ) (xs : List ℤ) (start stride : ℕ) (os : List ℤ) → ArePut gain xs start stride 0 os os
put_start gain xs start stride os = record {
  here = λ i h. absurd (omega arith);
  others = λ p h. refl;
}

pub put_more : (gain : ℤ) (xs : List ℤ) (start stride n : ℕ) (old mid : List ℤ) (v : ℤ) → 1 ≤ stride → start + stride * n < length mid → v ≡ sample_of gain (item xs n) → ArePut gain xs start stride n old mid → ArePut gain xs start stride (n + 1) old (slice_set mid (start + stride * n) v)
put_more gain xs start stride n old mid v s h e a = record {
  here = λ i l. elim (cases_eq i n) [
    | inl q ↦ rw q (get_or-set_same mid (start + stride * n) v (pos 0) h ∙ e)
    | inr q ↦
        let less : i < n = smaller i n l q in
        let apart : start + stride * i < start + stride * n = places_apart start stride i n s less in
        let ne : start + stride * i ≢ start + stride * n = λ r. absurd (omega arith) in
        get_or-set_other mid (start + stride * n) (start + stride * i) v (pos 0) ne ∙ a.here i less
  ];
  others = λ p l.
      let ne : p ≢ start + stride * n = l n (omega arith) in
      get_or-set_other mid (start + stride * n) p v (pos 0) ne ∙ a.others p (λ i m. l i (omega arith));
}
  where
    smaller : (i n : ℕ) → i < n + 1 → (i ≡ n → ⊥) → i < n
    smaller i n l q = omega arith

-- the code's steps at 64 bits, with gain 0
pub record PlainSteps (y : ℤ) : Type 0 where
  pub sum : FitsSigned w64 (y +ℤ pos 2048)
  pub shifted : FitsSigned w64 (rounded y 12)
  pub word : FitsSigned w32 (rounded y 12)

pub plain_steps : (y : ℤ) → unsigned_abs y < 2 ^ 33 → PlainSteps y
plain_steps y h =
    let b : unsigned_abs (y +ℤ pos 2048) ≤ 2 ^ 34 = omega (arith, ints) in
    record {
      sum = fits_signed_from_abs w64 (y +ℤ pos 2048) (omega arith);
      shifted = fits_signed_from_abs w64 (rounded y 12) (omega (arith, shr_within (y +ℤ pos 2048) 12 (2 ^ 34) b));
      word = fits_signed_from_abs w32 (rounded y 12) (omega (arith, shr_scaled (y +ℤ pos 2048) 12 (2 ^ 22) b));
    }

-- and for a gain's exponent
pub record FactorSteps (e : ℤ) : Type 0 where
  pub octave_fits : FitsSigned w64 (int_shr e 10)
  pub whole : FitsSigned w64 (pos 1024 *ℤ int_shr e 10)
  pub behind : FitsSigned w64 (e -ℤ pos 1024 *ℤ int_shr e 10)
  pub behind_low : pos 0 ≤ℤ (e -ℤ pos 1024 *ℤ int_shr e 10)
  pub behind_high : unsigned_abs (e -ℤ pos 1024 *ℤ int_shr e 10) < 1024
  pub left : FitsSigned w64 (pos 42 -ℤ int_shr e 10)
  pub left_low : pos 21 ≤ℤ (pos 42 -ℤ int_shr e 10)
  pub left_high : (pos 42 -ℤ int_shr e 10) ≤ℤ pos 64

steps_from : (e h : ℤ) → unsigned_abs e ≤ 21771 → (pos 1024 *ℤ h) ≤ℤ e → e <ℤ (pos 1024 *ℤ h +ℤ pos 1024) → (negsuc 21 ≤ℤ h) × (h ≤ℤ pos 21)
steps_from e h p q r = (omega (arith, ints), omega (arith, ints))

pub factor_steps : (e : ℤ) → unsigned_abs e ≤ 21771 → FactorSteps e
factor_steps e g =
    let h : ℤ = int_shr e 10 in
    let below : (pos 1024 *ℤ h) ≤ℤ e = shr_low e 10 in
    let above : e <ℤ (pos 1024 *ℤ h +ℤ pos 1024) = shr_high e 10 in
    let s : (negsuc 21 ≤ℤ h) × (h ≤ℤ pos 21) = steps_from e h g below above in
    let low : negsuc 21 ≤ℤ h = s.0 in
    let high : h ≤ℤ pos 21 = s.1 in
    record {
      octave_fits = fits_signed_from_abs w64 h (omega (arith, ints));
      whole = fits_signed_from_abs w64 (pos 1024 *ℤ h) (omega (arith, ints));
      behind = fits_signed_from_abs w64 (e -ℤ pos 1024 *ℤ h) (omega (arith, ints));
      behind_low = omega (arith, ints);
      behind_high = omega (arith, ints);
      left = fits_signed_from_abs w64 (pos 42 -ℤ h) (omega (arith, ints));
      left_low = omega (arith, ints);
      left_high = omega (arith, ints);
    }

-- a number of 16 bits
pub fits_sixteen : (z : ℤ) → negsuc 32767 ≤ℤ z → z ≤ℤ pos 32767 → FitsSigned w16 z
fits_sixteen (pos n) p q = record { sfits = omega (arith, ints) }
fits_sixteen (negsuc n) p q = record { sfits = omega (arith, ints) }
