-- The forward transform by places: the fold, the turned items, and the last division.
use Rattle.std.proofs.Common.{◌≡◌, ◌≢◌, ℕ, suc, ◌+◌, ◌-◌, ◌*◌, ◌/◌, ◌%◌, ◌^◌, ◌<◌, ◌≤◌, refl, sym, subst, inl, inr, arith, ap, ◌∙◌, List, length, length-set}
use Rattle.std.specs.Prelude.{ℤ, pos, negsuc, neg_ℤ, ◌+ℤ◌, ◌-ℤ◌, ◌*ℤ◌, unsigned_abs, slice_set, nat_lt, FitsSigned, int_div}
use Rattle.std.specs.Int.{int_shr, w64}
use Rattle.std.proofs.lemmas.Int.{ints, fits_signed_from_abs}
use Rattle.std.proofs.lemmas.Bool.{cases_lt, cases_eq, lt-ltb, le-ltb, cond-true, cond-false}
use Rattle.std.proofs.lemmas.Nat.{mul-le, div_below}
use Rattle.std.proofs.Math.Nat.{div-div-eq-div-mul}
use Rattle.fixed_math.specs.Items.{item}
use Rattle.fixed_math.proofs.RoundingLemmas.{shr_scaled, quotient_within}
use Rattle.mdct_fixed.specs.declared.complex.Complex.{Complex}
use Rattle.mdct_fixed.specs.Numbers.{turned, IsWithin}
use Rattle.mdct_fixed.specs.Mdct.{IsSize, turn_angle, turned_pairs, kernel, windowed, weighted, placed, folded, floored, scaled, forward_value}
use Rattle.mdct_fixed.specs.Transform.{fourier, growth, radices, radices_by, radix}
use Rattle.mdct_fixed.proofs.MdctLemmas.{set_here, set_other, size_facts, weighted_size, angle_in}
use Rattle.mdct_fixed.proofs.InverseLemmas.{windowed_low, windowed_middle, windowed_high, kernel_even, kernel_odd, back_is}
use Rattle.mdct_fixed.proofs.PlanLemmas.{turned_within}

-- ---- the fold's edges

pub record AreFolded (n t : ℕ) (values old new : List ℤ) : Type 0 where
  pub first : (u : ℕ) → u < t → item new u ≡ neg_ℤ (weighted (item values (n + 59 - u)) (60 + u)) -ℤ weighted (item values (n + 60 + u)) (59 - u)
  pub last : (u : ℕ) → u < t → item new (n - 60 + u) ≡ weighted (item values u) u -ℤ weighted (item values (119 - u)) (119 - u)
  pub others : (i : ℕ) → 60 ≤ i → i < n - 60 → item new i ≡ item old i

pub folded_start : (n : ℕ) (values old : List ℤ) → AreFolded n 0 values old old
folded_start n values old = record { first = λ u h. absurd (omega arith); last = λ u h. absurd (omega arith); others = λ i h l. refl }

pub folded_next : (n t : ℕ) (values old new : List ℤ) (v w : ℤ) → t < 60 → 120 ≤ n → length new ≡ n
    → v ≡ neg_ℤ (weighted (item values (n + 59 - t)) (60 + t)) -ℤ weighted (item values (n + 60 + t)) (59 - t)
    → w ≡ weighted (item values t) t -ℤ weighted (item values (119 - t)) (119 - t)
    → AreFolded n t values old new → AreFolded n (t + 1) values old (slice_set (slice_set new t v) (n - 60 + t) w)
folded_next n t values old new v w l z e ev ew r = record { first = first; last = last; others = others }
  where
    mid : List ℤ
    mid = slice_set new t v

    smaller : (j k : ℕ) → j < k + 1 → (j ≡ k → ⊥) → j < k
    smaller j k h o = omega arith

    first : (u : ℕ) → u < t + 1 → item (slice_set mid (n - 60 + t) w) u ≡ neg_ℤ (weighted (item values (n + 59 - u)) (60 + u)) -ℤ weighted (item values (n + 60 + u)) (59 - u)
    first u h =
        let m : u ≢ n - 60 + t = omega arith in
        set_other mid (n - 60 + t) u w m ∙ elim (cases_eq u t) [
          | inl f ↦ rw f (set_here new t t v _ refl (omega arith) ev)
          | inr o ↦ set_other new t u v o ∙ r.first u (smaller u t h o)
        ]

    last : (u : ℕ) → u < t + 1 → item (slice_set mid (n - 60 + t) w) (n - 60 + u) ≡ weighted (item values u) u -ℤ weighted (item values (119 - u)) (119 - u)
    last u h = elim (cases_eq u t) [
      | inl f ↦ rw f (set_here mid (n - 60 + t) (n - 60 + t) w _ refl (omega (arith, length-set new t v)) ew)
      | inr o ↦
          let m : n - 60 + u ≢ n - 60 + t = λ f. o (omega arith) in
          let k : n - 60 + u ≢ t = omega arith in
          set_other mid (n - 60 + t) (n - 60 + u) w m ∙ set_other new t (n - 60 + u) v k ∙ r.last u (smaller u t h o)
    ]

    others : (i : ℕ) → 60 ≤ i → i < n - 60 → item (slice_set mid (n - 60 + t) w) i ≡ item old i
    others i h k =
        let m : i ≢ n - 60 + t = omega arith in
        let o : i ≢ t = omega arith in
        set_other mid (n - 60 + t) i w m ∙ set_other new t i v o ∙ r.others i h k

-- ---- turned items from both ends

pub record AreBack (h k : ℕ) (s : ℕ → Complex) (out : List ℤ) : Type 0 where
  pub upwards : (j : ℕ) → j < k → item out (2 * j) ≡ scaled (2 * h) (turned (s j) (turn_angle (2 * h) j)).re
  pub downwards : (j : ℕ) → j < k → item out (2 * h - 1 - 2 * j) ≡ scaled (2 * h) (neg_ℤ (turned (s j) (turn_angle (2 * h) j)).im)

pub back_start : (h : ℕ) (s : ℕ → Complex) (out : List ℤ) → AreBack h 0 s out
back_start h s out = record { upwards = λ j l. absurd (omega arith); downwards = λ j l. absurd (omega arith) }

pub back_next : (h k : ℕ) (s : ℕ → Complex) (out : List ℤ) (v w : ℤ) → k < h → length out ≡ 2 * h → v ≡ scaled (2 * h) (turned (s k) (turn_angle (2 * h) k)).re → w ≡ scaled (2 * h) (neg_ℤ (turned (s k) (turn_angle (2 * h) k)).im) → AreBack h k s out → AreBack h (k + 1) s (slice_set (slice_set out (2 * k) v) (2 * h - 1 - 2 * k) w)
back_next h k s out v w l e ev ew r = record { upwards = upwards; downwards = downwards }
  where
    mid : List ℤ
    mid = slice_set out (2 * k) v

    smaller : (j k : ℕ) → j < k + 1 → (j ≡ k → ⊥) → j < k
    smaller j k h o = omega arith

    upwards : (j : ℕ) → j < k + 1 → item (slice_set mid (2 * h - 1 - 2 * k) w) (2 * j) ≡ scaled (2 * h) (turned (s j) (turn_angle (2 * h) j)).re
    upwards j lj =
        let n : 2 * j ≢ 2 * h - 1 - 2 * k = omega arith in
        set_other mid (2 * h - 1 - 2 * k) (2 * j) w n ∙ elim (cases_eq j k) [
          | inl f ↦ rw f (set_here out (2 * k) (2 * k) v _ refl (omega arith) ev)
          | inr o ↦
              let m : 2 * j ≢ 2 * k = λ f. o (omega arith) in
              set_other out (2 * k) (2 * j) v m ∙ r.upwards j (smaller j k lj o)
        ]

    downwards : (j : ℕ) → j < k + 1 → item (slice_set mid (2 * h - 1 - 2 * k) w) (2 * h - 1 - 2 * j) ≡ scaled (2 * h) (neg_ℤ (turned (s j) (turn_angle (2 * h) j)).im)
    downwards j lj = elim (cases_eq j k) [
      | inl f ↦ rw f (set_here mid (2 * h - 1 - 2 * k) (2 * h - 1 - 2 * k) w _ refl (omega (arith, length-set out (2 * k) v)) ew)
      | inr o ↦
          let less : j < k = smaller j k lj o in
          let m : 2 * h - 1 - 2 * j ≢ 2 * h - 1 - 2 * k = λ f. apart h j k less l f in
          let n : 2 * h - 1 - 2 * j ≢ 2 * k = omega arith in
          set_other mid (2 * h - 1 - 2 * k) (2 * h - 1 - 2 * j) w m ∙ set_other out (2 * k) (2 * h - 1 - 2 * j) v n ∙ r.downwards j less
    ]
      where
        apart : (h j k : ℕ) → j < k → k < h → 2 * h - 1 - 2 * j ≡ 2 * h - 1 - 2 * k → ⊥
        apart h j k a b f = omega arith

-- ---- the division

pub floored_shifted : (z : ℤ) (k d : ℕ) → floored (int_shr z k) d ≡ floored z (2 ^ k * d)
unfolding floored
floored_shifted (pos a) k d = ap pos (div-div-eq-div-mul a (2 ^ k) d)
floored_shifted (negsuc a) k d = ap negsuc (div-div-eq-div-mul a (2 ^ k) d)

pub floored_within : (z : ℤ) (d m : ℕ) → 0 < d → unsigned_abs z ≤ m * d → unsigned_abs (floored z d) ≤ m
unfolding floored
floored_within (pos a) d m z h =
    let p : a < (m + 1) * d = omega arith in
    omega (arith, div_below a d (m + 1) z p)
floored_within (negsuc a) d m z h =
    let p : a < m * d = omega arith in
    omega (arith, div_below a d m z p)

-- the code's quotient, over a number that is moved above 0
pub moved_quotient : (z : ℤ) → unsigned_abs z ≤ 2 ^ 47 → int_div (z +ℤ pos 263882790666240) (pos 15) -ℤ pos 17592186044416 ≡ floored z 15
unfolding floored
moved_quotient (pos a) h =
    let e : (a + 263882790666240) / 15 ≡ a / 15 + 17592186044416 = omega arith in
    ap (λ v. pos v -ℤ pos 17592186044416) e ∙ back (a / 15)
  where
    back : (q : ℕ) → pos (q + 17592186044416) -ℤ pos 17592186044416 ≡ pos q
    back q = omega (arith, ints)
moved_quotient (negsuc a) h =
    let l : suc a ≤ 2 ^ 47 = h in
    let e : negsuc a +ℤ pos 263882790666240 ≡ pos (263882790666239 - a) = omega (arith, ints) in
    let f : (263882790666239 - a) / 15 + a / 15 ≡ 17592186044415 = omega arith in
    ap (λ v. int_div v (pos 15) -ℤ pos 17592186044416) e ∙ below ((263882790666239 - a) / 15) (a / 15) f
  where
    below : (p q : ℕ) → p + q ≡ 17592186044415 → pos p -ℤ pos 17592186044416 ≡ negsuc q
    below p q e = omega (arith, ints)

fits : (z : ℤ) → unsigned_abs z < 2 ^ 63 → FitsSigned w64 z
fits z h = fits_signed_from_abs w64 z h

pub record FifteenthSteps (x : ℤ) : Type 0 where
  pub number : FitsSigned w64 x
  pub moved : FitsSigned w64 (x +ℤ pos 263882790666240)
  pub quotient : FitsSigned w64 (int_div (x +ℤ pos 263882790666240) (pos 15))
  pub back : FitsSigned w64 (int_div (x +ℤ pos 263882790666240) (pos 15) -ℤ pos 17592186044416)

pub fifteenth_steps : (x : ℤ) → unsigned_abs x ≤ 2 ^ 47 → FifteenthSteps x
fifteenth_steps x h =
    let m : unsigned_abs (x +ℤ pos 263882790666240) ≤ 2 ^ 49 = omega (arith, ints) in
    let q : unsigned_abs (int_div (x +ℤ pos 263882790666240) (pos 15)) ≤ 2 ^ 49 = quotient_within (x +ℤ pos 263882790666240) (pos 15) (2 ^ 49) m in
    record {
      number = fits x (omega arith);
      moved = fits (x +ℤ pos 263882790666240) (omega arith);
      quotient = fits (int_div (x +ℤ pos 263882790666240) (pos 15)) (omega arith);
      back = fits (int_div (x +ℤ pos 263882790666240) (pos 15) -ℤ pos 17592186044416) (omega (arith, ints));
    }

pub record ScaleSteps (x : ℤ) (n k : ℕ) : Type 0 where
  pub number : FitsSigned w64 x
  pub times : FitsSigned w64 (pos 4 *ℤ x)
  pub sum : FitsSigned w64 (pos 4 *ℤ x +ℤ pos n)
  pub difference : FitsSigned w64 (pos n -ℤ pos 4 *ℤ x)
  pub sum_shifted : FitsSigned w64 (int_shr (pos 4 *ℤ x +ℤ pos n) k)
  pub difference_shifted : FitsSigned w64 (int_shr (pos n -ℤ pos 4 *ℤ x) k)
  pub sum_small : unsigned_abs (int_shr (pos 4 *ℤ x +ℤ pos n) k) ≤ 2 ^ 47
  pub difference_small : unsigned_abs (int_shr (pos n -ℤ pos 4 *ℤ x) k) ≤ 2 ^ 47

pub scale_steps : (x : ℤ) (n k : ℕ) → unsigned_abs x ≤ 2 ^ 46 → n ≤ 960 → 2 ^ k * 15 ≡ 2 * n → 120 ≤ n → ScaleSteps x n k
scale_steps x n k h l e z =
    let p : 4 ≤ 2 ^ k = omega arith in
    let q : 2 ^ 47 * 4 ≤ 2 ^ 47 * 2 ^ k = mul-le (2 ^ 47) 4 (2 ^ 47) (2 ^ k) (omega arith) p in
    let a : unsigned_abs (int_shr (pos 4 *ℤ x +ℤ pos n) k) ≤ 2 ^ 47 = shr_scaled (pos 4 *ℤ x +ℤ pos n) k (2 ^ 47) (omega (arith, ints)) in
    let b : unsigned_abs (int_shr (pos n -ℤ pos 4 *ℤ x) k) ≤ 2 ^ 47 = shr_scaled (pos n -ℤ pos 4 *ℤ x) k (2 ^ 47) (omega (arith, ints)) in
    record {
      number = fits x (omega arith);
      times = fits (pos 4 *ℤ x) (omega (arith, ints));
      sum = fits (pos 4 *ℤ x +ℤ pos n) (omega (arith, ints));
      difference = fits (pos n -ℤ pos 4 *ℤ x) (omega (arith, ints));
      sum_shifted = fits (int_shr (pos 4 *ℤ x +ℤ pos n) k) (omega arith);
      difference_shifted = fits (int_shr (pos n -ℤ pos 4 *ℤ x) k) (omega arith);
      sum_small = a;
      difference_small = b;
    }

pub sum_scaled : (x r : ℤ) (n k : ℕ) → 2 ^ k * 15 ≡ 2 * n → r ≡ floored (int_shr (pos 4 *ℤ x +ℤ pos n) k) 15 → r ≡ scaled n x
sum_scaled x r n k e h = h ∙ floored_shifted (pos 4 *ℤ x +ℤ pos n) k 15 ∙ ap (floored (pos 4 *ℤ x +ℤ pos n)) e

pub difference_scaled : (x r : ℤ) (n k : ℕ) → 2 ^ k * 15 ≡ 2 * n → r ≡ floored (int_shr (pos n -ℤ pos 4 *ℤ x) k) 15 → r ≡ scaled n (neg_ℤ x)
difference_scaled x r n k e h =
    let f : pos n -ℤ pos 4 *ℤ x ≡ pos 4 *ℤ neg_ℤ x +ℤ pos n = omega (arith, ints) in
    h ∙ floored_shifted (pos n -ℤ pos 4 *ℤ x) k 15 ∙ ap (floored (pos n -ℤ pos 4 *ℤ x)) e ∙ ap (λ z. floored z (2 * n)) f

-- ---- differences of windowed values

pub record DifferenceSteps (a b : ℤ) : Type 0 where
  pub first : FitsSigned w64 a
  pub second : FitsSigned w64 b
  pub negated : FitsSigned w64 (pos 0 -ℤ a)
  pub sum : FitsSigned w64 (pos 0 -ℤ a -ℤ b)
  pub difference : FitsSigned w64 (a -ℤ b)

pub difference_steps : (a b : ℤ) → unsigned_abs a ≤ 2 ^ 46 → unsigned_abs b ≤ 2 ^ 46 → DifferenceSteps a b
difference_steps a b p q = record {
  first = fits a (omega arith);
  second = fits b (omega arith);
  negated = fits (pos 0 -ℤ a) (omega (arith, ints));
  sum = fits (pos 0 -ℤ a -ℤ b) (omega (arith, ints));
  difference = fits (a -ℤ b) (omega (arith, ints));
}

pub sum_is : (a b s t : ℤ) → a ≡ s → b ≡ t → pos 0 -ℤ a -ℤ b ≡ neg_ℤ s -ℤ t
sum_is a b s t p q = omega (arith, ints)

-- ---- the fold by places

pub record IsFold (n : ℕ) (values mid new : List ℤ) : Type 0 where
  pub middle : (m : ℕ) → m < n → item mid m ≡ neg_ℤ (item values (n + 59 - m))
  pub first : (u : ℕ) → u < 60 → item new u ≡ neg_ℤ (weighted (item values (n + 59 - u)) (60 + u)) -ℤ weighted (item values (n + 60 + u)) (59 - u)
  pub last : (u : ℕ) → u < 60 → item new (n - 60 + u) ≡ weighted (item values u) u -ℤ weighted (item values (119 - u)) (119 - u)
  pub others : (i : ℕ) → 60 ≤ i → i < n - 60 → item new i ≡ item mid i

pub fold_from : (n k : ℕ) (values mid new : List ℤ) → n ≡ k → ((m : ℕ) → m < n → item mid m ≡ neg_ℤ (item values (n + 59 - m)))
    → ((u : ℕ) → u < 60 → item new u ≡ neg_ℤ (weighted (item values (k + 59 - u)) (60 + u)) -ℤ weighted (item values (k + 60 + u)) (59 - u))
    → ((u : ℕ) → u < 60 → item new (k - 60 + u) ≡ weighted (item values u) u -ℤ weighted (item values (119 - u)) (119 - u))
    → ((i : ℕ) → 60 ≤ i → i < k - 60 → item new i ≡ item mid i) → IsFold n values mid new
fold_from n k values mid new e a b d f = record {
  middle = a;
  first = λ u h. subst (λ x. item new u ≡ neg_ℤ (weighted (item values (x + 59 - u)) (60 + u)) -ℤ weighted (item values (x + 60 + u)) (59 - u)) (sym e) (b u h);
  last = λ u h. subst (λ x. item new (x - 60 + u) ≡ weighted (item values u) u -ℤ weighted (item values (119 - u)) (119 - u)) (sym e) (d u h);
  others = λ i h l. f i h (omega arith);
}

sum_within : (a b : ℤ) → unsigned_abs a ≤ 2 ^ 29 → unsigned_abs b ≤ 2 ^ 29 → unsigned_abs (neg_ℤ a -ℤ b) ≤ 2 ^ 30
sum_within a b h k = omega (arith, ints)

difference_within : (a b : ℤ) → unsigned_abs a ≤ 2 ^ 29 → unsigned_abs b ≤ 2 ^ 29 → unsigned_abs (a -ℤ b) ≤ 2 ^ 30
difference_within a b h k = omega (arith, ints)

negated_small : (a : ℤ) → unsigned_abs a ≤ 2 ^ 29 → unsigned_abs (neg_ℤ a) ≤ 2 ^ 30
negated_small a h = omega (arith, ints)

pub fold_small : (n : ℕ) (values mid new : List ℤ) → 120 ≤ n → ((i : ℕ) → i < n + 120 → unsigned_abs (item values i) ≤ 2 ^ 29) → IsFold n values mid new → (m : ℕ) → m < n → unsigned_abs (item new m) ≤ 2 ^ 30
fold_small n values mid new z s f m l = elim (cases_lt m 60) [
  | inl a ↦
      subst (λ x. unsigned_abs x ≤ 2 ^ 30) (sym (f.first m a))
      (sum_within (weighted (item values (n + 59 - m)) (60 + m)) (weighted (item values (n + 60 + m)) (59 - m))
      (weighted_size (item values (n + 59 - m)) (60 + m) (2 ^ 29) (omega arith) (s (n + 59 - m) (omega arith))) (weighted_size (item values (n + 60 + m)) (59 - m) (2 ^ 29) (omega arith) (s (n + 60 + m) (omega arith))))
  | inr a ↦ elim (cases_lt m (n - 60)) [
    | inl b ↦
        subst (λ x. unsigned_abs x ≤ 2 ^ 30) (sym (f.others m a b ∙ f.middle m l)) (negated_small (item values (n + 59 - m)) (s (n + 59 - m) (omega arith)))
    | inr b ↦
        let u : ℕ = m - (n - 60) in
        let e : n - 60 + u ≡ m = omega arith in
        subst (λ x. unsigned_abs x ≤ 2 ^ 30) (sym (ap (item new) (sym e) ∙ f.last u (omega arith)))
        (difference_within (weighted (item values u) u) (weighted (item values (119 - u)) (119 - u))
        (weighted_size (item values u) u (2 ^ 29) (omega arith) (s u (omega arith))) (weighted_size (item values (119 - u)) (119 - u) (2 ^ 29) (omega arith) (s (119 - u) (omega arith))))
  ]
]

placed_inside : (n h i : ℕ) (z : ℕ → ℤ) → n ≡ 2 * h → 60 ≤ h → h - 60 ≤ i → i < h - 60 + n + 120 → placed n z i ≡ z (i - (h - 60))
unfolding placed
placed_inside n h i z e k l r =
    let a : (n - 120) / 2 ≡ h - 60 = omega arith in
    cond-false (nat_lt i ((n - 120) / 2)) _ _ (le-ltb i ((n - 120) / 2) (omega arith)) ∙ cond-true (nat_lt (i - (n - 120) / 2) (n + 120)) _ _ (lt-ltb (i - (n - 120) / 2) (n + 120) (omega arith)) ∙ ap (λ x. z (i - x)) a

placed_before : (n h i : ℕ) (z : ℕ → ℤ) → n ≡ 2 * h → 60 ≤ h → i < h - 60 → placed n z i ≡ pos 0
unfolding placed
placed_before n h i z e k l =
    let a : (n - 120) / 2 ≡ h - 60 = omega arith in
    cond-true (nat_lt i ((n - 120) / 2)) _ _ (lt-ltb i ((n - 120) / 2) (omega arith))

placed_behind : (n h i : ℕ) (z : ℕ → ℤ) → n ≡ 2 * h → 60 ≤ h → h - 60 + n + 120 ≤ i → placed n z i ≡ pos 0
unfolding placed
placed_behind n h i z e k l =
    let a : (n - 120) / 2 ≡ h - 60 = omega arith in
    cond-false (nat_lt i ((n - 120) / 2)) _ _ (le-ltb i ((n - 120) / 2) (omega arith)) ∙ cond-false (nat_lt (i - (n - 120) / 2) (n + 120)) _ _ (le-ltb (i - (n - 120) / 2) (n + 120) (omega arith))

folded_low : (n h m : ℕ) (x : ℕ → ℤ) → n ≡ 2 * h → m < h → folded n x m ≡ neg_ℤ (x (3 * h - 1 - m)) -ℤ x (3 * h + m)
unfolding folded
folded_low n h m x e l =
    let a : n / 2 ≡ h = omega arith in
    cond-true (nat_lt m (n / 2)) _ _ (lt-ltb m (n / 2) (omega arith)) ∙ ap (λ y. neg_ℤ (x (3 * y - 1 - m)) -ℤ x (3 * y + m)) a

folded_high : (n h m : ℕ) (x : ℕ → ℤ) → n ≡ 2 * h → h ≤ m → folded n x m ≡ x (m - h) -ℤ x (3 * h - 1 - m)
unfolding folded
folded_high n h m x e l =
    let a : n / 2 ≡ h = omega arith in
    cond-false (nat_lt m (n / 2)) _ _ (le-ltb m (n / 2) (omega arith)) ∙ ap (λ y. x (m - y) -ℤ x (3 * y - 1 - m)) a

-- the value that is mirrored from the end, before its window
mirrored : (n h m : ℕ) (z : ℕ → ℤ) → n ≡ 2 * h → 60 ≤ h → m < n → placed n z (3 * h - 1 - m) ≡ z (n + 59 - m)
mirrored n h m z e k l =
    let a : 3 * h - 1 - m - (h - 60) ≡ n + 59 - m = omega arith in
    placed_inside n h (3 * h - 1 - m) z e k (omega arith) (omega arith) ∙ ap z a

less_nothing : (a b : ℤ) → b ≡ pos 0 → neg_ℤ a -ℤ b ≡ neg_ℤ a
less_nothing a b e = omega (arith, ints)

nothing_less : (a b : ℤ) → b ≡ pos 0 → b -ℤ a ≡ neg_ℤ a
nothing_less a b e = omega (arith, ints)

pub fold_value : (n h : ℕ) (values mid new : List ℤ) → n ≡ 2 * h → 60 ≤ h → IsFold n values mid new → (m : ℕ) → m < n → item new m ≡ folded n (placed n (windowed n (item values))) m
fold_value n h values mid new e k f m l = elim (cases_lt m 60) [
  | inl a ↦
      let i1 : 3 * h + m - (h - 60) ≡ n + 60 + m = omega arith in
      let w1 : n + 119 - (n + 59 - m) ≡ 60 + m = omega arith in
      let w2 : n + 119 - (n + 60 + m) ≡ 59 - m = omega arith in
      let x1 : placed n z (3 * h - 1 - m) ≡ weighted (v (n + 59 - m)) (60 + m) = mirrored n h m z e k l ∙ windowed_high n (n + 59 - m) v (omega arith) (omega arith) ∙ ap (weighted (v (n + 59 - m))) w1 in
      let x2 : placed n z (3 * h + m) ≡ weighted (v (n + 60 + m)) (59 - m) = placed_inside n h (3 * h + m) z e k (omega arith) (omega arith) ∙ ap z i1 ∙ windowed_high n (n + 60 + m) v (omega arith) (omega arith) ∙ ap (weighted (v (n + 60 + m))) w2 in
      f.first m a ∙ sym (folded_low n h m (placed n z) e (omega arith) ∙ ap (λ y. neg_ℤ y -ℤ placed n z (3 * h + m)) x1 ∙ ap (λ y. neg_ℤ (weighted (v (n + 59 - m)) (60 + m)) -ℤ y) x2)
  | inr a ↦ elim (cases_lt m (n - 60)) [
    | inl b ↦
        let x1 : placed n z (3 * h - 1 - m) ≡ v (n + 59 - m) = mirrored n h m z e k l ∙ windowed_middle n (n + 59 - m) v (omega arith) (omega arith) in
        f.others m a b ∙ f.middle m l ∙ elim (cases_lt m h) [
          | inl c ↦
              sym (folded_low n h m (placed n z) e c ∙ less_nothing (placed n z (3 * h - 1 - m)) (placed n z (3 * h + m)) (placed_behind n h (3 * h + m) z e k (omega arith)) ∙ ap neg_ℤ x1)
          | inr c ↦
              sym (folded_high n h m (placed n z) e c ∙ nothing_less (placed n z (3 * h - 1 - m)) (placed n z (m - h)) (placed_before n h (m - h) z e k (omega arith)) ∙ ap neg_ℤ x1)
        ]
    | inr b ↦
        let u : ℕ = m - (n - 60) in
        let p : n - 60 + u ≡ m = omega arith in
        let i1 : m - h - (h - 60) ≡ u = omega arith in
        let i2 : n + 59 - m ≡ 119 - u = omega arith in
        let x1 : placed n z (3 * h - 1 - m) ≡ weighted (v (119 - u)) (119 - u) = mirrored n h m z e k l ∙ ap z i2 ∙ windowed_low n (119 - u) v (omega arith) in
        let x2 : placed n z (m - h) ≡ weighted (v u) u = placed_inside n h (m - h) z e k (omega arith) (omega arith) ∙ ap z i1 ∙ windowed_low n u v (omega arith) in
        ap (item new) (sym p) ∙ f.last u (omega arith)
        ∙ sym (folded_high n h m (placed n z) e (omega arith) ∙ ap (λ y. y -ℤ placed n z (3 * h - 1 - m)) x2 ∙ ap (λ y. weighted (v u) u -ℤ y) x1)
  ]
]
  where
    v : ℕ → ℤ
    v = item values

    z : ℕ → ℤ
    z = windowed n (item values)

-- pairs of the same items are the same
pub same_pairs : (n i : ℕ) (s t : ℕ → ℤ) → IsSize n → i < n / 2 → ((j : ℕ) → j < n → s j ≡ t j) → turned_pairs n s i ≡ turned_pairs n t i
unfolding turned_pairs
same_pairs n i s t z l e =
    let f = size_facts n z in
    let even = f.even in
    ap (λ x. turned (record { re = x; im = s (n - 1 - 2 * i) }) (turn_angle n i)) (e (2 * i) (omega arith))
    ∙ ap (λ x. turned (record { re = t (2 * i); im = x }) (turn_angle n i)) (e (n - 1 - 2 * i) (omega arith))

-- ---- the whole

pub back_value : (n h : ℕ) (s : ℕ → ℤ) (v : ℕ → Complex) (out : List ℤ) → n ≡ 2 * h → ((k : ℕ) → k < h → v k ≡ fourier (n / 2) (turned_pairs n s) k)
    → ((k : ℕ) → k < h → item out (2 * k) ≡ scaled (2 * h) (turned (v k) (turn_angle (2 * h) k)).re) → ((k : ℕ) → k < h → item out (2 * h - 1 - 2 * k) ≡ scaled (2 * h) (neg_ℤ (turned (v k) (turn_angle (2 * h) k)).im))
    → (p : ℕ) → p < n → item out p ≡ scaled n (kernel n s p)
back_value n h s v out e f up down p l = elim (cases_eq (p % 2) 0) [
  | inl w ↦
      let k : ℕ = p / 2 in
      let b : k < h = omega arith in
      let i : p ≡ 2 * k = omega arith in
      ap (item out) i ∙ up k b ∙ ap (λ x. scaled x (turned (v k) (turn_angle (2 * h) k)).re) (sym e) ∙ ap (λ x. scaled n x.re) (back_is n h k s (v k) e (f k b)) ∙ sym (ap (scaled n) (ap (kernel n s) i ∙ kernel_even n k s))
  | inr w ↦
      let k : ℕ = (n - 1 - p) / 2 in
      let b : k < h = omega arith in
      let i : p ≡ 2 * h - 1 - 2 * k = omega arith in
      let j : p ≡ n - 1 - 2 * k = omega arith in
      ap (item out) i ∙ down k b ∙ ap (λ x. scaled x (neg_ℤ (turned (v k) (turn_angle (2 * h) k)).im)) (sym e) ∙ ap (λ x. scaled n (neg_ℤ x.im)) (back_is n h k s (v k) e (f k b)) ∙ sym (ap (scaled n) (ap (kernel n s) j ∙ kernel_odd n h k s e b))
]

growth_60 : growth (radices 60) ≡ 315
unfolding growth radices_by radix
growth_60 = refl

growth_120 : growth (radices 120) ≡ 945
unfolding growth radices_by radix
growth_120 = refl

growth_240 : growth (radices 240) ≡ 2205
unfolding growth radices_by radix
growth_240 = refl

growth_480 : growth (radices 480) ≡ 6615
unfolding growth radices_by radix
growth_480 = refl

pub growth_share : (n : ℕ) → IsSize n → growth (radices (n / 2)) ≤ 7 * n
growth_share n s = elim s [
  | inl e ↦ rw e (omega (arith, growth_60))
  | inr o ↦ elim o [
    | inl e ↦ rw e (omega (arith, growth_120))
    | inr p ↦ elim p [
      | inl e ↦ rw e (omega (arith, growth_240))
      | inr e ↦ rw e (omega (arith, growth_480))
    ]
  ]
]

scaled_small : (n g : ℕ) (q : ℤ) → 120 ≤ n → g ≤ 7 * n → unsigned_abs q ≤ 2 * (g * 2 ^ 31) → unsigned_abs (scaled n q) < 2 ^ 38
scaled_small n g q z h l =
    let a : unsigned_abs (pos 4 *ℤ q +ℤ pos n) ≤ (28 * 2 ^ 31 + 1) * (2 * n) = omega (arith, ints) in
    let b = floored_within (pos 4 *ℤ q +ℤ pos n) (2 * n) (28 * 2 ^ 31 + 1) (omega arith) a in
    omega arith

negated_within : (z : ℤ) (n : ℕ) → unsigned_abs z ≤ n → unsigned_abs (neg_ℤ z) ≤ n
negated_within z n h = omega (arith, ints)

pub back_within : (n h g : ℕ) (v : ℕ → Complex) (out : List ℤ) → IsSize n → n ≡ 2 * h → g ≤ 7 * n → ((k : ℕ) → k < h → IsWithin (g * 2 ^ 31) (v k))
    → ((k : ℕ) → k < h → item out (2 * k) ≡ scaled (2 * h) (turned (v k) (turn_angle (2 * h) k)).re) → ((k : ℕ) → k < h → item out (2 * h - 1 - 2 * k) ≡ scaled (2 * h) (neg_ℤ (turned (v k) (turn_angle (2 * h) k)).im))
    → (p : ℕ) → p < n → unsigned_abs (item out p) < 2 ^ 38
back_within n h g v out z e lg f up down p l = elim (cases_eq (p % 2) 0) [
  | inl w ↦
      let k : ℕ = p / 2 in
      let b : k < h = omega arith in
      let i : p ≡ 2 * k = omega arith in
      subst (λ x. unsigned_abs x < 2 ^ 38) (sym (ap (item out) i ∙ up k b)) (small (turned (v k) (turn_angle (2 * h) k)).re (turns k b).re)
  | inr w ↦
      let k : ℕ = (n - 1 - p) / 2 in
      let b : k < h = omega arith in
      let i : p ≡ 2 * h - 1 - 2 * k = omega arith in
      subst (λ x. unsigned_abs x < 2 ^ 38) (sym (ap (item out) i ∙ down k b)) (small (neg_ℤ (turned (v k) (turn_angle (2 * h) k)).im) (negated_within (turned (v k) (turn_angle (2 * h) k)).im (2 * (g * 2 ^ 31)) (turns k b).im))
]
  where
    turns : (k : ℕ) → k < h → IsWithin (2 * (g * 2 ^ 31)) (turned (v k) (turn_angle (2 * h) k))
    turns k b =
        let q : k < n / 2 = omega arith in
        let a : turn_angle n k < 3840 = angle_in n k z q in
        let c : turn_angle n k ≡ turn_angle (2 * h) k = ap (λ x. turn_angle x k) e in
        turned_within (v k) (turn_angle (2 * h) k) (g * 2 ^ 31) (omega arith) (f k b)

    small : (q : ℤ) → unsigned_abs q ≤ 2 * (g * 2 ^ 31) → unsigned_abs (scaled (2 * h) q) < 2 ^ 38
    small q w =
        let s = size_facts n z in
        let low = s.low in
        scaled_small (2 * h) g q (omega arith) (omega arith) w

pub whole_forward : (n h : ℕ) (values : ℕ → ℤ) (v : ℕ → Complex) (out : List ℤ) → n ≡ 2 * h → ((k : ℕ) → k < h → v k ≡ fourier (n / 2) (turned_pairs n (folded n (placed n (windowed n values)))) k)
    → ((k : ℕ) → k < h → item out (2 * k) ≡ scaled (2 * h) (turned (v k) (turn_angle (2 * h) k)).re) → ((k : ℕ) → k < h → item out (2 * h - 1 - 2 * k) ≡ scaled (2 * h) (neg_ℤ (turned (v k) (turn_angle (2 * h) k)).im))
    → (p : ℕ) → p < n → item out p ≡ forward_value n values p
unfolding forward_value
whole_forward n h values v out e f up down p l = back_value n h (folded n (placed n (windowed n values))) v out e f up down p l
