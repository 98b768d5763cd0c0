-- The circle: the step's literals, the sizes of its points and the mirror of its quarter, by evaluation, and
-- the cases of cosine and sine.
use Rattle.std.proofs.Common.{◌≡◌, ℕ, zero, suc, ◌+◌, ◌-◌, ◌*◌, ◌%◌, ◌^◌, ◌<◌, ◌≤◌, refl, sym, ap, subst, inl, inr, arith, ◌∙◌, Bool, true, false, ◌&&◌, List, [], ◌∷◌, get_or}
use Rattle.std.specs.Prelude.{nat_le, ℤ, pos, negsuc, neg_ℤ, ◌+ℤ◌, ◌-ℤ◌, ◌*ℤ◌, ◌≤ℤ◌, unsigned_abs, FitsSigned}
use Rattle.std.specs.Int.{int_shr, w64, w128}
use Rattle.std.specs.Cmp.Rules.{signed_items}
use Rattle.std.specs.Ordering.{int_eq}
use lib.Pointwise.{pointwise}
use Rattle.std.proofs.lemmas.Int.{ints, fits_signed_from_abs}
use Rattle.std.proofs.Math.IntN.{neg_ℤ-neg_ℤ}
use Rattle.std.proofs.lemmas.Bool.{cases_lt, and_parts, leb-true, le-leb, lt-leb, cond-true, cond-false}
use Rattle.fixed_math.specs.declared.circle.Point.{Point}
use Rattle.fixed_math.specs.Root.{root, root_by}
use Rattle.fixed_math.specs.Circle.{halved, fifteenth_cosine, step_cosine, step_sine, turned_by, start, point_by, point, narrowed, quarter_cosine, quarter_sine, half_circle_cosine, half_circle_sine, cosine, sine}
use Rattle.fixed_math.proofs.RoundingLemmas.{product_within, shr_scaled}

-- ---- the step

pub step_cosine-is : step_cosine ≡ 1152921408146894538
unfolding step_cosine halved fifteenth_cosine root root_by
step_cosine-is = refl

pub step_sine-is : step_sine ≡ 471615836983582
unfolding step_sine step_cosine halved fifteenth_cosine root root_by
step_sine-is = refl

unfoldable pub next : Point → Point
next p = turned_by 1152921408146894538 471615836983582 p

unfoldable pub at : ℕ → Point
at a = point_by 1152921408146894538 471615836983582 a

pub point-at : (a : ℕ) → point a ≡ at a
unfolding point at
point-at a = ap (λ c. point_by c step_sine a) step_cosine-is ∙ ap (λ s. point_by 1152921408146894538 s a) step_sine-is

next-at : (a : ℕ) → next (at a) ≡ at (suc a)
unfolding next at point_by
next-at a = refl

-- ---- the steps of the code

pub record TurnSteps (x y : ℤ) (c s : ℕ) : Type 0 where
  pub x_fits : FitsSigned w64 x
  pub y_fits : FitsSigned w64 y
  pub x_wide : FitsSigned w128 x
  pub y_wide : FitsSigned w128 y
  pub first : FitsSigned w128 (x *ℤ pos c)
  pub second : FitsSigned w128 (y *ℤ pos s)
  pub third : FitsSigned w128 (y *ℤ pos c)
  pub fourth : FitsSigned w128 (x *ℤ pos s)
  pub difference : FitsSigned w128 (x *ℤ pos c -ℤ y *ℤ pos s)
  pub sum : FitsSigned w128 (y *ℤ pos c +ℤ x *ℤ pos s)
  pub x_shifted : FitsSigned w128 (int_shr (x *ℤ pos c -ℤ y *ℤ pos s) 60)
  pub y_shifted : FitsSigned w128 (int_shr (y *ℤ pos c +ℤ x *ℤ pos s) 60)
  pub x_result : FitsSigned w64 (int_shr (x *ℤ pos c -ℤ y *ℤ pos s) 60)
  pub y_result : FitsSigned w64 (int_shr (y *ℤ pos c +ℤ x *ℤ pos s) 60)

narrow : (z : ℤ) → unsigned_abs z < 2 ^ 63 → FitsSigned w64 z
narrow z h = fits_signed_from_abs w64 z h

wide : (z : ℤ) → unsigned_abs z < 2 ^ 127 → FitsSigned w128 z
wide z h = fits_signed_from_abs w128 z h

pub turn_steps : (x y : ℤ) (c s : ℕ) → unsigned_abs x ≤ 2 ^ 60 → unsigned_abs y ≤ 2 ^ 60 → c ≤ 2 ^ 60 → s ≤ 2 ^ 60 → TurnSteps x y c s
turn_steps x y c s p q u v =
    let a : unsigned_abs (x *ℤ pos c) ≤ 2 ^ 120 = product_within x (pos c) (2 ^ 60) (2 ^ 60) p u in
    let b : unsigned_abs (y *ℤ pos s) ≤ 2 ^ 120 = product_within y (pos s) (2 ^ 60) (2 ^ 60) q v in
    let d : unsigned_abs (y *ℤ pos c) ≤ 2 ^ 120 = product_within y (pos c) (2 ^ 60) (2 ^ 60) q u in
    let e : unsigned_abs (x *ℤ pos s) ≤ 2 ^ 120 = product_within x (pos s) (2 ^ 60) (2 ^ 60) p v in
    let f : unsigned_abs (x *ℤ pos c -ℤ y *ℤ pos s) ≤ 2 ^ 61 * 2 ^ 60 = omega (arith, ints) in
    let g : unsigned_abs (y *ℤ pos c +ℤ x *ℤ pos s) ≤ 2 ^ 61 * 2 ^ 60 = omega (arith, ints) in
    let m : unsigned_abs (int_shr (x *ℤ pos c -ℤ y *ℤ pos s) 60) ≤ 2 ^ 61 = shr_scaled (x *ℤ pos c -ℤ y *ℤ pos s) 60 (2 ^ 61) f in
    let n : unsigned_abs (int_shr (y *ℤ pos c +ℤ x *ℤ pos s) 60) ≤ 2 ^ 61 = shr_scaled (y *ℤ pos c +ℤ x *ℤ pos s) 60 (2 ^ 61) g in
    record {
      x_fits = narrow x (omega arith);
      y_fits = narrow y (omega arith);
      x_wide = wide x (omega arith);
      y_wide = wide y (omega arith);
      first = wide (x *ℤ pos c) (omega arith);
      second = wide (y *ℤ pos s) (omega arith);
      third = wide (y *ℤ pos c) (omega arith);
      fourth = wide (x *ℤ pos s) (omega arith);
      difference = wide (x *ℤ pos c -ℤ y *ℤ pos s) (omega arith);
      sum = wide (y *ℤ pos c +ℤ x *ℤ pos s) (omega arith);
      x_shifted = wide (int_shr (x *ℤ pos c -ℤ y *ℤ pos s) 60) (omega arith);
      y_shifted = wide (int_shr (y *ℤ pos c +ℤ x *ℤ pos s) 60) (omega arith);
      x_result = narrow (int_shr (x *ℤ pos c -ℤ y *ℤ pos s) 60) (omega arith);
      y_result = narrow (int_shr (y *ℤ pos c +ℤ x *ℤ pos s) 60) (omega arith);
    }

-- ---- the points of a quarter are small

abbrev at_most : ℤ → ℕ → Bool
at_most (pos a) n = nat_le a n
at_most (negsuc a) n = false

abbrev sized : ℤ → ℕ → Bool
sized z n = nat_le (unsigned_abs z) n

abbrev pub is_small : Point → Bool
is_small p = (sized p.x (2 ^ 60) && sized p.y (2 ^ 60)) && at_most (narrowed p.x) 32768

pub record IsSmall (p : Point) : Type 0 where
  pub x : unsigned_abs p.x ≤ 2 ^ 60
  pub y : unsigned_abs p.y ≤ 2 ^ 60
  pub cosine_low : pos 0 ≤ℤ narrowed p.x
  pub cosine_high : unsigned_abs (narrowed p.x) ≤ 32768

at_most-is : (z : ℤ) (n : ℕ) → at_most z n ≡ true → (pos 0 ≤ℤ z) × (unsigned_abs z ≤ n)
at_most-is (pos a) n h = (omega (arith, ints), leb-true a n h)
at_most-is (negsuc a) n h = absurd (cc)

IsSmall-from : (p : Point) → is_small p ≡ true → IsSmall p
IsSmall-from p h =
    let a = and_parts (sized p.x (2 ^ 60) && sized p.y (2 ^ 60)) (at_most (narrowed p.x) 32768) h in
    let b = and_parts (sized p.x (2 ^ 60)) (sized p.y (2 ^ 60)) a.0 in
    let d = at_most-is (narrowed p.x) 32768 a.1 in
    record {
      x = leb-true (unsigned_abs p.x) (2 ^ 60) b.0;
      y = leb-true (unsigned_abs p.y) (2 ^ 60) b.1;
      cosine_low = d.0;
      cosine_high = d.1;
    }

unfoldable pub all_small : ℕ → Point → Bool
all_small zero p = true
all_small (suc n) p = is_small p && all_small n (next p)

quarter_small : all_small 3841 start ≡ true
unfolding all_small next
quarter_small = refl

small_from : (n j k : ℕ) → all_small n (at j) ≡ true → k < n → IsSmall (at (j + k))
unfolding all_small
small_from zero j k h p = absurd (omega arith)
small_from (suc n) j zero h p =
    let e : j ≡ j + 0 = omega arith in
    subst (λ a. IsSmall (at a)) e (IsSmall-from (at j) (and_parts (is_small (at j)) (all_small n (next (at j))) h).0)
small_from (suc n) j (suc k) h p =
    let rest = (and_parts (is_small (at j)) (all_small n (next (at j))) h).1 in
    let e : suc j + k ≡ j + suc k = omega arith in
    subst (λ a. IsSmall (at a)) e (small_from n (suc j) k (subst (λ q. all_small n q ≡ true) (next-at j) rest) (omega arith))

at-start : at 0 ≡ start
unfolding at point_by
at-start = refl

pub small_at : (a : ℕ) → a ≤ 3840 → IsSmall (at a)
small_at a h =
    let e : 0 + a ≡ a = omega arith in
    subst (λ k. IsSmall (at k)) e (small_from 3841 0 a (subst (λ p. all_small 3841 p ≡ true) (sym at-start) quarter_small) (omega arith))

-- ---- the quarter's mirror

unfoldable pub cosines : ℕ → Point → List ℤ
cosines zero p = []
cosines (suc n) p = narrowed p.x ∷ cosines n (next p)

-- the sines, last first, before those of the list
unfoldable pub sines_onto : ℕ → Point → List ℤ → List ℤ
sines_onto zero p acc = acc
sines_onto (suc n) p acc = sines_onto n (next p) (narrowed p.y ∷ acc)

quarter_mirrored : pointwise int_eq (cosines 3841 start) (sines_onto 3841 start []) ≡ true
unfolding cosines sines_onto next
quarter_mirrored = refl

cosines-at : (n j k : ℕ) → k < n → get_or (cosines n (at j)) k (pos 0) ≡ narrowed (at (j + k)).x
unfolding cosines
cosines-at zero j k p = absurd (omega arith)
cosines-at (suc n) j zero p =
    let e : j ≡ j + 0 = omega arith in
    ap (λ a. narrowed (at a).x) e
cosines-at (suc n) j (suc k) p =
    let e : suc j + k ≡ j + suc k = omega arith in
    let q : k < n = omega arith in
    ap (λ t. get_or (cosines n t) k (pos 0)) (next-at j) ∙ cosines-at n (suc j) k q ∙ ap (λ a. narrowed (at a).x) e

sines-kept : (n k : ℕ) (p : Point) (acc : List ℤ) → get_or (sines_onto n p acc) (n + k) (pos 0) ≡ get_or acc k (pos 0)
unfolding sines_onto
sines-kept zero k p acc =
    let e : 0 + k ≡ k = omega arith in
    ap (λ i. get_or acc i (pos 0)) e
sines-kept (suc n) k p acc =
    let e : suc n + k ≡ n + suc k = omega arith in
    ap (λ i. get_or (sines_onto n (next p) (narrowed p.y ∷ acc)) i (pos 0)) e ∙ sines-kept n (suc k) (next p) (narrowed p.y ∷ acc)

sines-at : (n j k : ℕ) (acc : List ℤ) → k < n → get_or (sines_onto n (at j) acc) k (pos 0) ≡ narrowed (at (j + (n - 1 - k))).y
unfolding sines_onto
sines-at zero j k acc p = absurd (omega arith)
sines-at (suc n) j k acc p =
    elim (cases_lt k n) [
      | inl q ↦
          let e : suc j + (n - 1 - k) ≡ j + (suc n - 1 - k) = omega arith in
          ap (λ t. get_or (sines_onto n t (narrowed (at j).y ∷ acc)) k (pos 0)) (next-at j) ∙ sines-at n (suc j) k (narrowed (at j).y ∷ acc) q ∙ ap (λ a. narrowed (at a).y) e
      | inr q ↦
          let e : k ≡ n + 0 = omega arith in
          let d : j ≡ j + (suc n - 1 - k) = omega arith in
          ap (λ i. get_or (sines_onto n (next (at j)) (narrowed (at j).y ∷ acc)) i (pos 0)) e ∙ sines-kept n 0 (next (at j)) (narrowed (at j).y ∷ acc) ∙ ap (λ a. narrowed (at a).y) d
    ]

mirror_at : (a : ℕ) → a ≤ 3840 → narrowed (at a).x ≡ narrowed (at (3840 - a)).y
mirror_at a h =
    let p : a < 3841 = omega arith in
    let e : 0 + a ≡ a = omega arith in
    let d : 0 + (3841 - 1 - a) ≡ 3840 - a = omega arith in
    let lists = (signed_items (cosines 3841 start) (sines_onto 3841 start [])).0 quarter_mirrored in
    sym (ap (λ k. narrowed (at k).x) e) ∙ sym (cosines-at 3841 0 a p) ∙ ap (λ t. get_or (cosines 3841 t) a (pos 0)) at-start ∙ ap (λ l. get_or l a (pos 0)) lists ∙ sym (ap (λ t. get_or (sines_onto 3841 t []) a (pos 0)) at-start) ∙ sines-at 3841 0 a [] p ∙ ap (λ k. narrowed (at k).y) d

pub quarter_cosine-at : (a : ℕ) → quarter_cosine a ≡ narrowed (at a).x
unfolding quarter_cosine
quarter_cosine-at a = ap (λ p. narrowed p.x) (point-at a)

pub quarter_sine-at : (a : ℕ) → quarter_sine a ≡ narrowed (at a).y
unfolding quarter_sine
quarter_sine-at a = ap (λ p. narrowed p.y) (point-at a)

-- a sine is the cosine of what is left of the quarter
pub quarter_mirror : (a : ℕ) → a ≤ 3840 → quarter_sine a ≡ quarter_cosine (3840 - a)
quarter_mirror a h =
    let e : a ≡ 3840 - (3840 - a) = omega arith in
    quarter_sine-at a ∙ ap (λ k. narrowed (at k).y) e ∙ sym (mirror_at (3840 - a) (omega arith)) ∙ sym (quarter_cosine-at (3840 - a))

-- a quarter's cosine is from 0 to 2^15
pub quarter_size : (a : ℕ) → a ≤ 3840 → unsigned_abs (quarter_cosine a) ≤ 2 ^ 15
quarter_size a h = subst (λ z. unsigned_abs z ≤ 2 ^ 15) (sym (quarter_cosine-at a)) (small_at a h).cosine_high

pub quarter_low : (a : ℕ) → a ≤ 3840 → pos 0 ≤ℤ quarter_cosine a
quarter_low a h = subst (λ z. pos 0 ≤ℤ z) (sym (quarter_cosine-at a)) (small_at a h).cosine_low

-- ---- the four quarters

first_half : (a : ℕ) → a ≤ 7680 → cosine a ≡ half_circle_cosine a
unfolding cosine
first_half a h = cond-true (nat_le a 7680) _ _ (le-leb a 7680 h)

second_half : (a : ℕ) → 7680 < a → cosine a ≡ half_circle_cosine (15360 - a)
unfolding cosine
second_half a h = cond-false (nat_le a 7680) _ _ (lt-leb a 7680 h)

pub cosine_first : (a : ℕ) → a ≤ 3840 → cosine a ≡ quarter_cosine a
cosine_first a h = first_half a (omega arith) ∙ cond-true (nat_le a 3840) _ _ (le-leb a 3840 h)

pub cosine_second : (a : ℕ) → 3840 < a → a ≤ 7680 → cosine a ≡ neg_ℤ (quarter_cosine (7680 - a))
cosine_second a h l = first_half a l ∙ cond-false (nat_le a 3840) _ _ (lt-leb a 3840 h)

pub cosine_third : (a : ℕ) → 7680 < a → a < 11520 → cosine a ≡ neg_ℤ (quarter_cosine (a - 7680))
cosine_third a h l =
    let p : 3840 < 15360 - a = omega arith in
    let e : 7680 - (15360 - a) ≡ a - 7680 = omega arith in
    second_half a h ∙ cond-false (nat_le (15360 - a) 3840) _ _ (lt-leb (15360 - a) 3840 p) ∙ ap (λ k. neg_ℤ (quarter_cosine k)) e

pub cosine_fourth : (a : ℕ) → 11520 ≤ a → cosine a ≡ quarter_cosine (15360 - a)
cosine_fourth a h =
    let p : 15360 - a ≤ 3840 = omega arith in
    second_half a (omega arith) ∙ cond-true (nat_le (15360 - a) 3840) _ _ (le-leb (15360 - a) 3840 p)

sine_first_half : (a : ℕ) → a ≤ 7680 → sine a ≡ half_circle_sine a
unfolding sine
sine_first_half a h = cond-true (nat_le a 7680) _ _ (le-leb a 7680 h)

sine_second_half : (a : ℕ) → 7680 < a → sine a ≡ neg_ℤ (half_circle_sine (15360 - a))
unfolding sine
sine_second_half a h = cond-false (nat_le a 7680) _ _ (lt-leb a 7680 h)

half_sine_low : (a : ℕ) → a ≤ 3840 → half_circle_sine a ≡ quarter_cosine (3840 - a)
half_sine_low a h = cond-true (nat_le a 3840) _ _ (le-leb a 3840 h) ∙ quarter_mirror a h

half_sine_high : (a : ℕ) → 3840 < a → a ≤ 7680 → half_circle_sine a ≡ quarter_cosine (a - 3840)
half_sine_high a h l =
    let p : 7680 - a ≤ 3840 = omega arith in
    let e : 3840 - (7680 - a) ≡ a - 3840 = omega arith in
    cond-false (nat_le a 3840) _ _ (lt-leb a 3840 h) ∙ quarter_mirror (7680 - a) p ∙ ap quarter_cosine e

pub sine_first : (a : ℕ) → a ≤ 3840 → sine a ≡ quarter_cosine (3840 - a)
sine_first a h = sine_first_half a (omega arith) ∙ half_sine_low a h

pub sine_second : (a : ℕ) → 3840 < a → a ≤ 7680 → sine a ≡ quarter_cosine (a - 3840)
sine_second a h l = sine_first_half a l ∙ half_sine_high a h l

pub sine_third : (a : ℕ) → 7680 < a → a < 11520 → sine a ≡ neg_ℤ (quarter_cosine (11520 - a))
sine_third a h l =
    let p : 3840 < 15360 - a = omega arith in
    let q : 15360 - a ≤ 7680 = omega arith in
    let e : 15360 - a - 3840 ≡ 11520 - a = omega arith in
    sine_second_half a h ∙ ap neg_ℤ (half_sine_high (15360 - a) p q) ∙ ap (λ k. neg_ℤ (quarter_cosine k)) e

pub sine_fourth : (a : ℕ) → 11520 ≤ a → a < 15360 → sine a ≡ neg_ℤ (quarter_cosine (a - 11520))
sine_fourth a h l =
    let p : 15360 - a ≤ 3840 = omega arith in
    let e : 3840 - (15360 - a) ≡ a - 11520 = omega arith in
    sine_second_half a (omega arith) ∙ ap neg_ℤ (half_sine_low (15360 - a) p) ∙ ap (λ k. neg_ℤ (quarter_cosine k)) e

-- a sine is the cosine a quarter of the circle before
pub sine_ahead : (a : ℕ) → a < 3840 → cosine (a + 11520) ≡ sine a
sine_ahead a h =
    let e : 15360 - (a + 11520) ≡ 3840 - a = omega arith in
    cosine_fourth (a + 11520) (omega arith) ∙ ap quarter_cosine e ∙ sym (sine_first a (omega arith))

behind_first : (a : ℕ) → 3840 ≤ a → a ≤ 7680 → cosine (a - 3840) ≡ sine a
behind_first a h l =
    elim (cases_lt 3840 a) [
      | inl p ↦ cosine_first (a - 3840) (omega arith) ∙ sym (sine_second a p l)
      | inr p ↦
          let e : a - 3840 ≡ 3840 - a = omega arith in
          cosine_first (a - 3840) (omega arith) ∙ ap quarter_cosine e ∙ sym (sine_first a p)
    ]

behind_second : (a : ℕ) → 7680 < a → a < 15360 → cosine (a - 3840) ≡ sine a
behind_second a h l =
    elim (cases_lt a 11520) [
      | inl p ↦
          let e : 7680 - (a - 3840) ≡ 11520 - a = omega arith in
          cosine_second (a - 3840) (omega arith) (omega arith) ∙ ap (λ k. neg_ℤ (quarter_cosine k)) e ∙ sym (sine_third a h p)
      | inr p ↦ behind_last a p l
    ]
  where
    behind_last : (a : ℕ) → 11520 ≤ a → a < 15360 → cosine (a - 3840) ≡ sine a
    behind_last a p l =
        elim (cases_lt 11520 a) [
          | inl q ↦
              let e : a - 3840 - 7680 ≡ a - 11520 = omega arith in
              cosine_third (a - 3840) (omega arith) (omega arith) ∙ ap (λ k. neg_ℤ (quarter_cosine k)) e ∙ sym (sine_fourth a p l)
          | inr q ↦
              let e : 7680 - (a - 3840) ≡ a - 11520 = omega arith in
              cosine_second (a - 3840) (omega arith) (omega arith) ∙ ap (λ k. neg_ℤ (quarter_cosine k)) e ∙ sym (sine_fourth a p l)
        ]

pub sine_behind : (a : ℕ) → 3840 ≤ a → a < 15360 → cosine (a - 3840) ≡ sine a
sine_behind a h l =
    elim (cases_lt 7680 a) [
      | inl p ↦ behind_second a p l
      | inr p ↦ behind_first a h p
    ]

-- ---- the code's halves

pub cosine_folded_low : (a : ℕ) → a ≤ 7680 → half_circle_cosine a ≡ cosine a
cosine_folded_low a h = sym (first_half a h)

pub cosine_folded_high : (a : ℕ) → 7680 < a → half_circle_cosine (15360 - a) ≡ cosine a
cosine_folded_high a h = sym (second_half a h)

-- ---- the table

pub point-start : start ≡ point 0
unfolding point point_by
point-start = refl

pub small_here : (p : Point) (a : ℕ) → p ≡ point a → a ≤ 3840 → IsSmall p
small_here p a e h = subst IsSmall (sym (point-at a) ∙ sym e) (small_at a h)

pub point-next : (p : Point) (a : ℕ) → p ≡ point a → turned_by step_cosine step_sine p ≡ point (a + 1)
unfolding point point_by
point-next p a e =
    let i : suc a ≡ a + 1 = omega arith in
    ap (turned_by step_cosine step_sine) e ∙ ap point i

pub quarter_entry : (p : Point) (a n : ℕ) → p ≡ point a → pos n ≡ narrowed p.x → pos n ≡ quarter_cosine a
unfolding quarter_cosine
quarter_entry p a n e h = h ∙ ap (λ q. narrowed q.x) e

-- ---- symmetries of the whole circle

quarter_end : quarter_cosine 3840 ≡ pos 0
unfolding quarter_sine point point_by
quarter_end = sym (quarter_mirror 0 (omega arith))

quarter_start : quarter_cosine 0 ≡ pos 32768
unfolding quarter_cosine point point_by
quarter_start = refl

pub cosine-zero : cosine 0 ≡ pos 32768
cosine-zero = cosine_first 0 (omega arith) ∙ quarter_start

pub sine-zero : sine 0 ≡ pos 0
sine-zero = sine_first 0 (omega arith) ∙ quarter_end

-- a quarter on, the sine is the cosine
pub quarter_turn : (a : ℕ) → a < 15360 → sine ((a + 3840) % 15360) ≡ cosine a
quarter_turn a h =
    elim (cases_lt a 11520) [
      | inl p ↦
          let e : (a + 3840) % 15360 ≡ a + 3840 = omega arith in
          let d : a + 3840 - 3840 ≡ a = omega arith in
          ap sine e ∙ sym (sine_behind (a + 3840) (omega arith) (omega arith)) ∙ ap cosine d
      | inr p ↦
          let e : (a + 3840) % 15360 ≡ a - 11520 = omega arith in
          let d : a - 11520 + 11520 ≡ a = omega arith in
          ap sine e ∙ sym (sine_ahead (a - 11520) (omega arith)) ∙ ap cosine d
    ]

half_first : (a : ℕ) → a < 3840 → cosine (a + 7680) ≡ neg_ℤ (cosine a)
half_first a h =
    elim (cases_lt 0 a) [
      | inl p ↦
          let e : a + 7680 - 7680 ≡ a = omega arith in
          cosine_third (a + 7680) (omega arith) (omega arith) ∙ ap (λ k. neg_ℤ (quarter_cosine k)) e ∙ sym (ap neg_ℤ (cosine_first a (omega arith)))
      | inr p ↦
          let e : 7680 - (a + 7680) ≡ a = omega arith in
          cosine_second (a + 7680) (omega arith) (omega arith) ∙ ap (λ k. neg_ℤ (quarter_cosine k)) e ∙ sym (ap neg_ℤ (cosine_first a (omega arith)))
    ]

half_second : (a : ℕ) → 3840 ≤ a → a < 7680 → cosine (a + 7680) ≡ neg_ℤ (cosine a)
half_second a h l =
    elim (cases_lt 3840 a) [
      | inl p ↦
          let e : 15360 - (a + 7680) ≡ 7680 - a = omega arith in
          cosine_fourth (a + 7680) (omega arith) ∙ ap quarter_cosine e ∙ sym (neg_ℤ-neg_ℤ (quarter_cosine (7680 - a))) ∙ sym (ap neg_ℤ (cosine_second a p (omega arith)))
      | inr p ↦
          let e : 15360 - (a + 7680) ≡ 3840 = omega arith in
          let d : a ≡ 3840 = omega arith in
          cosine_fourth (a + 7680) (omega arith) ∙ ap quarter_cosine e ∙ quarter_end ∙ sym (ap neg_ℤ (ap cosine d ∙ cosine_first 3840 (omega arith) ∙ quarter_end))
    ]

half_low : (a : ℕ) → a < 7680 → cosine (a + 7680) ≡ neg_ℤ (cosine a)
half_low a h =
    elim (cases_lt a 3840) [
      | inl p ↦ half_first a p
      | inr p ↦ half_second a p h
    ]

-- half of the circle on, the cosine has the other sign
pub half_turn : (a : ℕ) → a < 15360 → cosine ((a + 7680) % 15360) ≡ neg_ℤ (cosine a)
half_turn a h =
    elim (cases_lt a 7680) [
      | inl p ↦
          let e : (a + 7680) % 15360 ≡ a + 7680 = omega arith in
          ap cosine e ∙ half_low a p
      | inr p ↦
          let e : (a + 7680) % 15360 ≡ a - 7680 = omega arith in
          let d : a - 7680 + 7680 ≡ a = omega arith in
          ap cosine e ∙ sym (neg_ℤ-neg_ℤ (cosine (a - 7680))) ∙ sym (ap neg_ℤ (half_low (a - 7680) (omega arith))) ∙ ap (λ k. neg_ℤ (cosine k)) d
    ]

-- a quarter on, the cosine is the sine with the other sign
pub quarter_turn_cosine : (a : ℕ) → a < 15360 → cosine ((a + 3840) % 15360) ≡ neg_ℤ (sine a)
quarter_turn_cosine a h =
    elim (cases_lt a 3840) [
      | inl p ↦
          let e : (a + 3840) % 15360 ≡ (a + 11520 + 7680) % 15360 = omega arith in
          ap cosine e ∙ half_turn (a + 11520) (omega arith) ∙ ap neg_ℤ (sine_ahead a p)
      | inr p ↦
          let e : (a + 3840) % 15360 ≡ (a - 3840 + 7680) % 15360 = omega arith in
          ap cosine e ∙ half_turn (a - 3840) (omega arith) ∙ ap neg_ℤ (sine_behind a p h)
    ]

-- backwards, the cosine is the same and the sine has the other sign
pub mirror_cosine : (a : ℕ) → 0 < a → a < 15360 → cosine (15360 - a) ≡ cosine a
mirror_cosine a h l =
    elim (cases_lt 7680 a) [
      | inl p ↦ first_half (15360 - a) (omega arith) ∙ cosine_folded_high a p
      | inr p ↦ mirror_low a p
    ]
  where
    mirror_low : (a : ℕ) → a ≤ 7680 → cosine (15360 - a) ≡ cosine a
    mirror_low a p =
        elim (cases_lt a 7680) [
          | inl q ↦
              let e : 15360 - (15360 - a) ≡ a = omega arith in
              second_half (15360 - a) (omega arith) ∙ ap half_circle_cosine e ∙ cosine_folded_low a p
          | inr q ↦
              let e : 15360 - a ≡ a = omega arith in
              ap cosine e
        ]

sine_end : sine 7680 ≡ pos 0
sine_end = sine_second 7680 (omega arith) (omega arith) ∙ quarter_end

pub mirror_sine : (a : ℕ) → 0 < a → a < 15360 → sine (15360 - a) ≡ neg_ℤ (sine a)
mirror_sine a h l =
    elim (cases_lt 7680 a) [
      | inl p ↦ sine_first_half (15360 - a) (omega arith) ∙ sym (neg_ℤ-neg_ℤ (half_circle_sine (15360 - a))) ∙ sym (ap neg_ℤ (sine_second_half a p))
      | inr p ↦ mirror_low a p
    ]
  where
    mirror_low : (a : ℕ) → a ≤ 7680 → sine (15360 - a) ≡ neg_ℤ (sine a)
    mirror_low a p =
        elim (cases_lt a 7680) [
          | inl q ↦
              let e : 15360 - (15360 - a) ≡ a = omega arith in
              sine_second_half (15360 - a) (omega arith) ∙ ap (λ k. neg_ℤ (half_circle_sine k)) e ∙ sym (ap neg_ℤ (sine_first_half a p))
          | inr q ↦
              let e : 15360 - a ≡ 7680 = omega arith in
              let d : a ≡ 7680 = omega arith in
              ap sine e ∙ sine_end ∙ sym (ap neg_ℤ (ap sine d ∙ sine_end))
        ]

-- ---- sizes

negated_size : (z : ℤ) (n : ℕ) → unsigned_abs z ≤ n → unsigned_abs (neg_ℤ z) ≤ n
negated_size z n h = omega (arith, ints)

pub cosine_size : (a : ℕ) → a < 15360 → unsigned_abs (cosine a) ≤ 2 ^ 15
cosine_size a h = elim (cases_lt 3840 a) [
  | inr p ↦ subst (λ z. unsigned_abs z ≤ 2 ^ 15) (sym (cosine_first a p)) (quarter_size a p)
  | inl p ↦ elim (cases_lt 7680 a) [
    | inr q ↦ subst (λ z. unsigned_abs z ≤ 2 ^ 15) (sym (cosine_second a p q)) (negated_size (quarter_cosine (7680 - a)) (2 ^ 15) (quarter_size (7680 - a) (omega arith)))
    | inl q ↦ elim (cases_lt a 11520) [
      | inl r ↦ subst (λ z. unsigned_abs z ≤ 2 ^ 15) (sym (cosine_third a q r)) (negated_size (quarter_cosine (a - 7680)) (2 ^ 15) (quarter_size (a - 7680) (omega arith)))
      | inr r ↦ subst (λ z. unsigned_abs z ≤ 2 ^ 15) (sym (cosine_fourth a r)) (quarter_size (15360 - a) (omega arith))
    ]
  ]
]

pub sine_size : (a : ℕ) → a < 15360 → unsigned_abs (sine a) ≤ 2 ^ 15
sine_size a h = elim (cases_lt 3840 a) [
  | inr p ↦ subst (λ z. unsigned_abs z ≤ 2 ^ 15) (sym (sine_first a p)) (quarter_size (3840 - a) (omega arith))
  | inl p ↦ elim (cases_lt 7680 a) [
    | inr q ↦ subst (λ z. unsigned_abs z ≤ 2 ^ 15) (sym (sine_second a p q)) (quarter_size (a - 3840) (omega arith))
    | inl q ↦ elim (cases_lt a 11520) [
      | inl r ↦ subst (λ z. unsigned_abs z ≤ 2 ^ 15) (sym (sine_third a q r)) (negated_size (quarter_cosine (11520 - a)) (2 ^ 15) (quarter_size (11520 - a) (omega arith)))
      | inr r ↦ subst (λ z. unsigned_abs z ≤ 2 ^ 15) (sym (sine_fourth a r h)) (negated_size (quarter_cosine (a - 11520)) (2 ^ 15) (quarter_size (a - 11520) (omega arith)))
    ]
  ]
]
