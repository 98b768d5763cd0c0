-- The bit-exact cosine and tangent: sizes of their series, and the cosine's range by evaluation.
use Rattle.std.proofs.Common.{◌≡◌, ℕ, zero, suc, ◌+◌, ◌-◌, ◌*◌, ◌%◌, ◌^◌, ◌<◌, ◌≤◌, refl, sym, ap, subst, inl, inr, arith, ◌∙◌, Bool, true, false, ◌&&◌}
use Rattle.std.specs.Prelude.{nat_le, ℤ, pos, negsuc, ◌+ℤ◌, ◌-ℤ◌, ◌*ℤ◌, ◌≤ℤ◌, unsigned_abs, FitsSigned}
use Rattle.std.specs.Int.{int_shr, w64, w32, cast_signed as to_z}
use Rattle.std.proofs.lemmas.Int.{ints, fits_signed_from_abs, to_z_pos}
use Rattle.std.proofs.lemmas.Nat.{mul-le, pow-add}
use Rattle.std.proofs.lemmas.Bool.{cases_lt, and_parts, leb-true}
use Rattle.std.proofs.Math.Nat.{mod-eq_of_lt, pow-le-pow_right}
use Rattle.fixed_math.specs.Root.{bit_length_of, IsBitLength}
use Rattle.fixed_math.specs.Bitexact.{product, bitexact_cosine, cosine_of_square, aligned, curve, log2_tangent}
use Rattle.fixed_math.proofs.RootLemmas.{bit_length-is}
use Rattle.fixed_math.proofs.RoundingLemmas.{product_within, round_within, shr_scaled}
use Rattle.fixed_math.proofs.TableLemmas.{all_from, all_from-at}

narrow : (z : ℤ) → unsigned_abs z < 2 ^ 63 → FitsSigned w64 z
narrow z h = fits_signed_from_abs w64 z h

-- a product by a number of at most 1 (Q15)
pub product_size : (a b r : ℤ) (n : ℕ) → unsigned_abs a ≤ 2 ^ 15 → unsigned_abs b ≤ n → r ≡ product a b → unsigned_abs r ≤ n
product_size a b r n p q e =
    let m : unsigned_abs (a *ℤ b) ≤ 2 ^ 15 * n = product_within a b (2 ^ 15) n p q in
    subst (λ z. unsigned_abs z ≤ n) (sym e) (round_within (a *ℤ b) 15 n (omega arith) (omega arith))

pub product_size_right : (a b r : ℤ) (n : ℕ) → unsigned_abs a ≤ n → unsigned_abs b ≤ 2 ^ 15 → r ≡ product a b → unsigned_abs r ≤ n
product_size_right a b r n p q e =
    let m : unsigned_abs (a *ℤ b) ≤ n * 2 ^ 15 = product_within a b n (2 ^ 15) p q in
    subst (λ z. unsigned_abs z ≤ n) (sym e) (round_within (a *ℤ b) 15 n (omega arith) m)

-- ---- the cosine

pub record SeriesSteps (t a b d : ℤ) : Type 0 where
  pub t_fits : FitsSigned w64 t
  pub a_fits : FitsSigned w64 a
  pub inner : FitsSigned w64 (pos 8277 +ℤ a)
  pub b_fits : FitsSigned w64 b
  pub middle : FitsSigned w64 (negsuc 7650 +ℤ b)
  pub d_fits : FitsSigned w64 d
  pub rest : FitsSigned w64 (pos 32767 -ℤ t)
  pub first : FitsSigned w64 (pos 1 +ℤ (pos 32767 -ℤ t))
  pub sum : FitsSigned w64 ((pos 1 +ℤ (pos 32767 -ℤ t)) +ℤ d)

pub series_steps : (t a b d : ℤ) → unsigned_abs t ≤ 2 ^ 15 → unsigned_abs a ≤ 2 ^ 20 → unsigned_abs b ≤ 2 ^ 20 → unsigned_abs d ≤ 2 ^ 20 → SeriesSteps t a b d
series_steps t a b d p q r s = record {
  t_fits = narrow t (omega arith);
  a_fits = narrow a (omega arith);
  inner = narrow (pos 8277 +ℤ a) (omega (arith, ints));
  b_fits = narrow b (omega arith);
  middle = narrow (negsuc 7650 +ℤ b) (omega (arith, ints));
  d_fits = narrow d (omega arith);
  rest = narrow (pos 32767 -ℤ t) (omega (arith, ints));
  first = narrow (pos 1 +ℤ (pos 32767 -ℤ t)) (omega (arith, ints));
  sum = narrow ((pos 1 +ℤ (pos 32767 -ℤ t)) +ℤ d) (omega (arith, ints));
}

pub record SquareSteps (x : ℤ) : Type 0 where
  pub x_fits : FitsSigned w64 x
  pub square : FitsSigned w64 (x *ℤ x)
  pub sum : FitsSigned w64 (pos 4096 +ℤ x *ℤ x)
  pub size : unsigned_abs (int_shr (pos 4096 +ℤ x *ℤ x) 13) ≤ 2 ^ 15
  pub shifted : FitsSigned w64 (int_shr (pos 4096 +ℤ x *ℤ x) 13)

pub square_steps : (x : ℤ) → pos 64 ≤ℤ x → x ≤ℤ pos 16320 → SquareSteps x
square_steps x l h =
    let s : unsigned_abs x ≤ 16320 = omega (arith, ints) in
    let m : unsigned_abs (x *ℤ x) ≤ 16320 * 16320 = product_within x x 16320 16320 s s in
    let n : unsigned_abs (pos 4096 +ℤ x *ℤ x) ≤ 2 ^ 15 * 2 ^ 13 = omega (arith, ints) in
    let t : unsigned_abs (int_shr (pos 4096 +ℤ x *ℤ x) 13) ≤ 2 ^ 15 = shr_scaled (pos 4096 +ℤ x *ℤ x) 13 (2 ^ 15) n in
    record {
      x_fits = narrow x (omega arith);
      square = narrow (x *ℤ x) (omega arith);
      sum = narrow (pos 4096 +ℤ x *ℤ x) (omega arith);
      size = t;
      shifted = narrow (int_shr (pos 4096 +ℤ x *ℤ x) 13) (omega arith);
    }

abbrev in_range : ℤ → Bool
in_range (pos n) = nat_le 1 n && nat_le n 32767
in_range (negsuc n) = false

in_range-is : (z : ℤ) → in_range z ≡ true → (pos 1 ≤ℤ z) × (z ≤ℤ pos 32767)
in_range-is (pos n) h =
    let p = and_parts (nat_le 1 n) (nat_le n 32767) h in
    let a : 1 ≤ n = leb-true 1 n p.0 in
    let b : n ≤ 32767 = leb-true n 32767 p.1 in
    (omega (arith, ints), omega (arith, ints))
in_range-is (negsuc n) h = absurd (cc)

range_tested : all_from (λ n. in_range (bitexact_cosine (pos n))) 16257 64 ≡ true
unfolding bitexact_cosine
range_tested = refl

pub cosine_range : (x : ℤ) → pos 64 ≤ℤ x → x ≤ℤ pos 16320 → (pos 1 ≤ℤ bitexact_cosine x) × (bitexact_cosine x ≤ℤ pos 32767)
cosine_range (pos n) l h =
    let e : 64 + (n - 64) ≡ n = omega (arith, ints) in
    let k : n - 64 < 16257 = omega (arith, ints) in
    in_range-is (bitexact_cosine (pos n)) (subst (λ i. in_range (bitexact_cosine (pos i)) ≡ true) e (all_from-at (λ i. in_range (bitexact_cosine (pos i))) 16257 64 (n - 64) range_tested k))
cosine_range (negsuc n) l h = absurd (omega (arith, ints))

pub cosine-square : (x : ℤ) → cosine_of_square (int_shr (pos 4096 +ℤ x *ℤ x) 13) ≡ bitexact_cosine x
unfolding bitexact_cosine
cosine-square x = refl

-- ---- the tangent

pub bits_15 : (s : ℕ) → s < 2 ^ 15 → bit_length_of s ≤ 15
bits_15 s h =
    let b : IsBitLength s (bit_length_of s) = bit_length-is s (omega arith) in
    elim (cases_lt 15 (bit_length_of s)) [
      | inl p ↦ longer s (bit_length_of s) h p b
      | inr p ↦ p
    ]
  where
    longer : (s n : ℕ) → s < 2 ^ 15 → 15 < n → IsBitLength s n → n ≤ 15
    longer zero n h p b = omega (arith, b.none refl)
    longer (suc s) n h p b =
        let q : 15 ≤ n - 1 = omega arith in
        let m : 2 ^ 15 ≤ 2 ^ (n - 1) = pow-le-pow_right {n = 2} (omega arith) q in
        let l : 2 ^ (n - 1) ≤ suc s = b.low (omega arith) in
        absurd (omega arith)

pub aligned_small : (s : ℕ) → s < 2 ^ 15 → aligned s ≤ 2 ^ 15
aligned_small s h =
    let n : ℕ = bit_length_of s in
    let k : n ≤ 15 = bits_15 s h in
    let b : IsBitLength s n = bit_length-is s (omega arith) in
    let l : s < 2 ^ n = b.high in
    let e : n + (15 - n) ≡ 15 = omega arith in
    let d : 2 ^ n * 2 ^ (15 - n) ≡ 2 ^ 15 = sym (pow-add 2 n (15 - n)) ∙ ap (λ i. 2 ^ i) e in
    let m : s * 2 ^ (15 - n) ≤ 2 ^ n * 2 ^ (15 - n) = mul-le s (2 ^ (15 - n)) (2 ^ n) (2 ^ (15 - n)) (omega arith) (omega arith) in
    omega arith

pub aligned-is : (s : ℕ) → s < 2 ^ 15 → to_z w64 (s * 2 ^ (15 - bit_length_of s) % 2 ^ 64) ≡ pos (aligned s)
aligned-is s h =
    let a : aligned s ≤ 2 ^ 15 = aligned_small s h in
    let p : s * 2 ^ (15 - bit_length_of s) < 2 ^ 64 = omega arith in
    let e : s * 2 ^ (15 - bit_length_of s) % 2 ^ 64 ≡ s * 2 ^ (15 - bit_length_of s) = mod-eq_of_lt p in
    rw e (to_z_pos w64 (s * 2 ^ (15 - bit_length_of s)) (omega arith))

pub record Log2Steps (n : ℕ) (x a b : ℤ) : Type 0 where
  pub x_fits : FitsSigned w64 x
  pub n_pos : to_z w64 n ≡ pos n
  pub length : FitsSigned w64 (pos n *ℤ pos 2048)
  pub a_fits : FitsSigned w64 a
  pub inner : FitsSigned w64 (a +ℤ pos 7932)
  pub inner_size : unsigned_abs (a +ℤ pos 7932) ≤ 2 ^ 15
  pub product : unsigned_abs (x *ℤ (a +ℤ pos 7932)) < 2 ^ 62
  pub b_fits : FitsSigned w64 b
  pub sum : FitsSigned w64 (pos n *ℤ pos 2048 +ℤ b)
  pub size : unsigned_abs (pos n *ℤ pos 2048 +ℤ b) ≤ 2 ^ 20

pub log2_steps : (n : ℕ) (x a b : ℤ) → n ≤ 15 → unsigned_abs x ≤ 2 ^ 15 → unsigned_abs a ≤ 2597 → unsigned_abs b ≤ 2 ^ 15 → Log2Steps n x a b
log2_steps n x a b p q r s =
    let i : unsigned_abs (a +ℤ pos 7932) ≤ 2 ^ 15 = omega (arith, ints) in
    let m : unsigned_abs (x *ℤ (a +ℤ pos 7932)) ≤ 2 ^ 15 * 2 ^ 15 = product_within x (a +ℤ pos 7932) (2 ^ 15) (2 ^ 15) q i in
    let t : unsigned_abs (pos n *ℤ pos 2048 +ℤ b) ≤ 2 ^ 20 = omega (arith, ints) in
    record {
      x_fits = narrow x (omega arith);
      n_pos = to_z_pos w64 n (omega arith);
      length = narrow (pos n *ℤ pos 2048) (omega (arith, ints));
      a_fits = narrow a (omega arith);
      inner = narrow (a +ℤ pos 7932) (omega arith);
      inner_size = i;
      product = omega arith;
      b_fits = narrow b (omega arith);
      sum = narrow (pos n *ℤ pos 2048 +ℤ b) (omega arith);
      size = t;
    }

-- the difference of two logarithms
pub log2_difference : (m n : ℕ) (a b : ℤ) → (pos (m * 2048) +ℤ a) -ℤ (pos (n * 2048) +ℤ b) ≡ ((pos m -ℤ pos n) *ℤ pos 2048 +ℤ a) -ℤ b
log2_difference m n a b = omega (arith, ints)

pub log2-tangent : (s c : ℕ) → ((pos (bit_length_of s) -ℤ pos (bit_length_of c)) *ℤ pos 2048 +ℤ curve (pos (aligned s))) -ℤ curve (pos (aligned c)) ≡ log2_tangent s c
unfolding log2_tangent
log2-tangent s c = refl

pub record DifferenceSteps (a b : ℤ) : Type 0 where
  pub a_fits : FitsSigned w64 a
  pub b_fits : FitsSigned w64 b
  pub difference : FitsSigned w64 (a -ℤ b)
  pub result : FitsSigned w32 (a -ℤ b)

pub difference_steps : (a b : ℤ) → unsigned_abs a ≤ 2 ^ 20 → unsigned_abs b ≤ 2 ^ 20 → DifferenceSteps a b
difference_steps a b p q =
    let s : unsigned_abs (a -ℤ b) ≤ 2 ^ 21 = omega (arith, ints) in
    record {
      a_fits = narrow a (omega arith);
      b_fits = narrow b (omega arith);
      difference = narrow (a -ℤ b) (omega arith);
      result = fits_signed_from_abs w32 (a -ℤ b) (omega arith);
    }
