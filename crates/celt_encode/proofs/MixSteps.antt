-- Sums and differences of two lists, place by place.
use Rattle.std.proofs.Common.{◌≡◌, ◌≢◌, ℕ, ℤ, pos, ◌+◌, ◌^◌, ◌<◌, ◌≤◌, ◌+ℤ◌, ◌-ℤ◌, List, length, ◌∙◌, ap, subst, arith, unsigned_abs, All, slice_set, inl, inr, min}
use Rattle.std.proofs.lemmas.List.{get_or-set_same, get_or-set_other, length-set}
use Rattle.std.proofs.lemmas.Bool.{cases_lt}
use Rattle.std.proofs.lemmas.Int.{ints, to_z-of_z, fits_signed_from_abs}
use Rattle.std.specs.Int.{w64, cast_unsigned as of_z, cast_signed as to_z}
use Rattle.std.specs.Prelude.{FitsSigned}
use Rattle.fixed_math.specs.Items.{item, listed}
use Rattle.fixed_math.proofs.ItemLemmas.{all_listed, listed_from, item_within}

pub record Mixing (f : ℤ → ℤ → ℤ) (l r out : List ℤ) (i : ℕ) : Type 0 where
  pub len : length out ≡ min (length l) (length r)
  pub each : (p : ℕ) → p < i → item out p ≡ f (item l p) (item r p)

pub mixing_none : (f : ℤ → ℤ → ℤ) (l r out : List ℤ) → length out ≡ min (length l) (length r) → Mixing f l r out 0
mixing_none f l r out len = record { len = len; each = λ p below. absurd (omega arith) }

pub mixing_more : (f : ℤ → ℤ → ℤ) (l r out : List ℤ) (i : ℕ) (v : ℤ) → i < length out → v ≡ f (item l i) (item r i)
    → Mixing f l r out i → Mixing f l r (slice_set out i v) (i + 1)
mixing_more f l r out i v below e m = record {
  len = length-set out i v ∙ m.len;
  each = λ p within.
      elim (cases_lt p i) [
        | inl less ↦ get_or-set_other out i p v (pos 0) (let ne : p ≢ i = omega arith in ne) ∙ m.each p less
        | inr same ↦
            let q : i ≡ p = omega arith in
            subst (λ k. item (slice_set out i v) k ≡ f (item l k) (item r k)) q (get_or-set_same out i v (pos 0) below ∙ e)
      ];
}

pub mixed_all : (f : ℤ → ℤ → ℤ) (l r out : List ℤ) (i : ℕ) → length out ≤ i → Mixing f l r out i → out ≡ listed (min (length l) (length r)) (λ p. f (item l p) (item r p))
mixed_all f l r out i all m = listed_from out (min (length l) (length r)) (λ p. f (item l p) (item r p)) m.len (λ p h. m.each p (let e = m.len in omega (arith, e, all, h)))

pub sum_small : (a b : ℤ) → unsigned_abs a ≤ 2 ^ 14 → unsigned_abs b ≤ 2 ^ 14 → unsigned_abs (a +ℤ b) ≤ 2 ^ 15
sum_small a b la lb = omega (arith, ints, la, lb)

pub difference_small : (a b : ℤ) → unsigned_abs a ≤ 2 ^ 14 → unsigned_abs b ≤ 2 ^ 14 → unsigned_abs (a -ℤ b) ≤ 2 ^ 15
difference_small a b la lb = omega (arith, ints, la, lb)

pub mixed_small : (f : ℤ → ℤ → ℤ) (l r out : List ℤ) (i : ℕ)
    → ((a b : ℤ) → unsigned_abs a ≤ 2 ^ 14 → unsigned_abs b ≤ 2 ^ 14 → unsigned_abs (f a b) ≤ 2 ^ 15)
    → length out ≤ i
    → All (λ v. unsigned_abs v ≤ 2 ^ 14) l
    → All (λ v. unsigned_abs v ≤ 2 ^ 14) r
    → Mixing f l r out i
    → All (λ v. unsigned_abs v ≤ 2 ^ 15) out
mixed_small f l r out i small all al ar m =
    all_listed (λ v. unsigned_abs v ≤ 2 ^ 15) out (min (length l) (length r)) (λ p. f (item l p) (item r p)) (mixed_all f l r out i all m)
    (λ p h. small (item l p) (item r p) (item_within l (2 ^ 14) p al) (item_within r (2 ^ 14) p ar))

pub wrapped_sum : (x y : ℤ) → unsigned_abs x ≤ 2 ^ 14 → unsigned_abs y ≤ 2 ^ 14
    → to_z w64 (of_z w64 (to_z w64 (of_z w64 x) +ℤ to_z w64 (of_z w64 y))) ≡ x +ℤ y
wrapped_sum x y lx ly =
    let fx : FitsSigned w64 x = fits_signed_from_abs w64 x (omega (arith, lx)) in
    let fy : FitsSigned w64 y = fits_signed_from_abs w64 y (omega (arith, ly)) in
    let s = sum_small x y lx ly in
    let fs : FitsSigned w64 (x +ℤ y) = fits_signed_from_abs w64 (x +ℤ y) (omega (arith, s)) in
    ap (λ a. to_z w64 (of_z w64 (a +ℤ to_z w64 (of_z w64 y)))) (to_z-of_z w64 x fx)
    ∙ ap (λ b. to_z w64 (of_z w64 (x +ℤ b))) (to_z-of_z w64 y fy)
    ∙ to_z-of_z w64 (x +ℤ y) fs

pub wrapped_difference : (x y : ℤ) → unsigned_abs x ≤ 2 ^ 14 → unsigned_abs y ≤ 2 ^ 14
    → to_z w64 (of_z w64 (to_z w64 (of_z w64 x) -ℤ to_z w64 (of_z w64 y))) ≡ x -ℤ y
wrapped_difference x y lx ly =
    let fx : FitsSigned w64 x = fits_signed_from_abs w64 x (omega (arith, lx)) in
    let fy : FitsSigned w64 y = fits_signed_from_abs w64 y (omega (arith, ly)) in
    let s = difference_small x y lx ly in
    let fs : FitsSigned w64 (x -ℤ y) = fits_signed_from_abs w64 (x -ℤ y) (omega (arith, s)) in
    ap (λ a. to_z w64 (of_z w64 (a -ℤ to_z w64 (of_z w64 y)))) (to_z-of_z w64 x fx)
    ∙ ap (λ b. to_z w64 (of_z w64 (x -ℤ b))) (to_z-of_z w64 y fy)
    ∙ to_z-of_z w64 (x -ℤ y) fs
