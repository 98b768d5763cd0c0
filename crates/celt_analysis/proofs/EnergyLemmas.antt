-- Energies of bands and their targets.
use Rattle.std.proofs.Common.{◌≡◌, ℕ, zero, suc, ◌+◌, ◌*◌, ◌/◌, ◌%◌, ◌^◌, ◌<◌, ◌≤◌, refl, sym, subst, inl, inr, arith, ap, ◌∙◌, List, length, true, false, nat_lt, if◌then◌else◌}
use Rattle.std.specs.Prelude.{Bool, int_lt, ◌&&◌, nat_eq, ℤ, pos, negsuc, ◌-ℤ◌, ◌*ℤ◌, FitsSigned, unsigned_abs, slice_index, slice_set, All}
use Rattle.std.specs.Int.{int_max, w64, w128}
use Rattle.std.proofs.lemmas.Int.{fits_signed_from_abs, unsigned_abs-mul}
use Rattle.std.proofs.lemmas.Bool.Decides.{nat_tests}
use Rattle.std.proofs.lemmas.List.{length-set, get_or-set_same, get_or-set_other, get_or_default}
use Rattle.celt_tables.specs.declared.energies.TheConstants.{MEANS}
use Rattle.fixed_math.specs.Items.{item, listed}
use Rattle.fixed_math.proofs.ItemLemmas.{put_next, listed_from}
use Rattle.std.proofs.lemmas.Nat.{mul-le}
use Rattle.std.proofs.lemmas.Bool.{cases_lt, cases_eq}
use Rattle.std.proofs.Math.Nat.{pow-le-pow_right}
use Rattle.fixed_math.specs.Powers.{fraction, power, logarithm, IsLogarithm}
use Rattle.fixed_math.specs.Root.{root, IsRoot}
use Rattle.fixed_math.proofs.PowerLemmas.{logarithm-is, fraction_low}
use Rattle.fixed_math.proofs.RootLemmas.{root-is, root_small}
use Rattle.celt_analysis.specs.Energies.{are_zero, floor, band_amplitude, height_of, target_of, row_target}
use Rattle.celt_analysis.specs.Sums.{squared}

pub square_within : (x : ℤ) → unsigned_abs x < 2 ^ 38 → squared x ≤ 2 ^ 76
square_within x h = mul-le (unsigned_abs x) (unsigned_abs x) (2 ^ 38) (2 ^ 38) (omega arith) (omega arith)

-- the code's steps for it
pub record WideSteps (x : ℤ) : Type 0 where
  pub x_fits : FitsSigned w64 x
  pub x_wide : FitsSigned w128 x
  pub square : FitsSigned w128 (x *ℤ x)
  pub size : unsigned_abs (x *ℤ x) ≤ 2 ^ 76

pub wide_steps : (x : ℤ) → unsigned_abs x < 2 ^ 38 → WideSteps x
wide_steps x h =
    let s : unsigned_abs (x *ℤ x) ≤ 2 ^ 76 = subst (λ k. k ≤ 2 ^ 76) (sym (unsigned_abs-mul x x)) (square_within x h) in
    record {
      x_fits = fits_signed_from_abs w64 _ (omega arith);
      x_wide = fits_signed_from_abs w128 _ (omega arith);
      square = fits_signed_from_abs w128 _ (omega arith);
      size = s;
    }

-- the root of an energy of a band
pub root_below : (v : ℕ) → v < 2 ^ 84 → root v < 2 ^ 42
root_below v h = let r : IsRoot v (root v) = root-is v (omega arith) in root_small v (root v) (2 ^ 42) (omega arith) r.low

-- a power is at least its octave
pub power_low : (e : ℕ) → 2 ^ (e / 1024) ≤ power e
unfolding power
power_low e =
    let f : 2 ^ 60 ≤ fraction (e % 1024) = fraction_low (e % 1024) (omega arith) in
    let m : 2 ^ 60 * 2 ^ (e / 1024) ≤ fraction (e % 1024) * 2 ^ (e / 1024) = mul-le (2 ^ 60) (2 ^ (e / 1024)) (fraction (e % 1024)) (2 ^ (e / 1024)) f (omega arith) in
    omega (arith, m)

-- its logarithm
pub logarithm_below : (v : ℕ) → 1 ≤ v → v < 2 ^ 42 → logarithm v < 43008
logarithm_below v some h =
    let l : IsLogarithm v (logarithm v) = logarithm-is v some (omega arith) in
    elim (cases_lt (logarithm v) 43008) [
      | inl a ↦ a
      | inr b ↦
          let octave : 42 ≤ logarithm v / 1024 = omega (arith, b) in
          let p : 2 ^ 42 ≤ 2 ^ (logarithm v / 1024) = pow-le-pow_right {n = 2} (omega arith) octave in
          absurd (omega (arith, p, power_low (logarithm v), l.within, h))
    ]

-- the target for an amplitude of 0, and for each other
pub target_none : (b v : ℕ) → v ≡ 0 → floor ≡ target_of b v
unfolding target_of
target_none b v e = ap (target_of b) (sym e)

pub target_some : (b v : ℕ) → 1 ≤ v → int_max floor (pos (logarithm v) -ℤ pos 12288 -ℤ pos (64 * slice_index MEANS b)) ≡ target_of b v
unfolding target_of
target_some b zero l = elim l [ ]
target_some b (suc v) l = refl

-- ---- the row of the first n targets, with the least energy behind them

pub record RowTo (end m : ℕ) (xs row : List ℤ) (n : ℕ) : Type 0 where
  pub count : length row ≡ 21
  pub done : (b : ℕ) → b < n → item row b ≡ row_target end m xs b
  pub ahead : (b : ℕ) → n ≤ b → b < 21 → item row b ≡ floor
  pub sizes : (b : ℕ) → b < 21 → unsigned_abs (item row b) < 2 ^ 15

pub row_next : (end m : ℕ) (xs row : List ℤ) (n : ℕ) (t : ℤ) → n < end → end ≤ 21 → t ≡ target_of n (band_amplitude m xs n) → unsigned_abs t < 2 ^ 15 → RowTo end m xs row n → RowTo end m xs (slice_set row n t) (n + 1)
unfolding row_target
row_next end m xs row n t l e v s h =
    let room : n < length row = omega (arith, h.count) in
    let less : nat_lt n end ≡ true = grind (arith, nat_tests, l) in
    record {
      count = length-set row n t ∙ h.count;
      done = put_next row n (row_target end m xs) t room (v ∙ sym (ap (λ k. if k then target_of n (band_amplitude m xs n) else floor) less)) h.done;
      ahead = λ b q r. let ne : (b ≡ n → ⊥) = λ e. omega (arith, e, q) in get_or-set_other row n b t (pos 0) ne ∙ h.ahead b (omega (arith, q)) r;
      sizes = λ b r. elim (cases_eq b n) [
        | inl a ↦ subst (λ k. unsigned_abs (item (slice_set row n t) k) < 2 ^ 15) (sym a) (subst (λ z. unsigned_abs z < 2 ^ 15) (sym (get_or-set_same row n t (pos 0) room)) s)
        | inr ne ↦ subst (λ z. unsigned_abs z < 2 ^ 15) (sym (get_or-set_other row n b t (pos 0) ne)) (h.sizes b r)
      ];
    }

pub row_whole : (end m : ℕ) (xs row : List ℤ) (n : ℕ) → end ≤ n → RowTo end m xs row n → row ≡ listed 21 (row_target end m xs)
unfolding row_target
row_whole end m xs row n l h = listed_from row 21 (row_target end m xs) h.count (λ b q. elim (cases_lt b n) [
  | inl a ↦ h.done b a
  | inr a ↦
      let less : nat_lt b end ≡ false = grind (arith, nat_tests, a, l) in
      h.ahead b a q ∙ sym (ap (λ k. if k then target_of b (band_amplitude m xs b) else floor) less)
])

pub row_sizes : (end m : ℕ) (xs row : List ℤ) (n : ℕ) → RowTo end m xs row n → All (λ t. unsigned_abs t < 2 ^ 15) row
row_sizes end m xs row n h = λ k d l. subst (λ z. unsigned_abs z < 2 ^ 15) (sym (get_or_default row k d (pos 0) l)) (h.sizes k (omega (arith, l, h.count)))

pub max_within : (x y : ℤ) (m : ℕ) → unsigned_abs x < m → unsigned_abs y < m → unsigned_abs (int_max x y) < m
max_within x y m a b = either (int_lt y x)
  where
    either : (t : Bool) → unsigned_abs (if t then x else y) < m
    either true = a
    either false = b

-- a height, and items that are 0
pub height_is : (xs ys : List ℤ) (b : ℕ) → int_max (item xs b) (item ys b) ≡ height_of xs ys b
unfolding height_of
height_is xs ys b = refl

pub zero_none : (xs : List ℤ) → are_zero 0 xs ≡ true
unfolding are_zero
zero_none xs = refl

pub zero_next : (n : ℕ) (xs : List ℤ) → item xs n ≡ pos 0 → are_zero n xs ≡ true → are_zero (n + 1) xs ≡ true
unfolding are_zero
zero_next n xs e h = ap (λ k. are_zero k xs) (one_on n) ∙ ap (λ b. b && nat_eq (unsigned_abs (item xs n)) 0) h ∙ ap (λ z. nat_eq (unsigned_abs z) 0) e
  where
    one_on : (n : ℕ) → n + 1 ≡ suc n
    one_on n = omega arith

pub zero_not : (k n : ℕ) (xs : List ℤ) → n < k → (item xs n ≡ pos 0 → ⊥) → false ≡ are_zero k xs
unfolding are_zero
zero_not zero n xs l h = absurd (omega (arith, l))
zero_not (suc k) n xs l h = elim (cases_eq n k) [
  | inl e ↦ and_false (are_zero k xs) (nat_eq (unsigned_abs (item xs k)) 0) (nonzero (item xs k) (λ z. h (ap (item xs) e ∙ z)))
  | inr ne ↦ ap (λ b. b && nat_eq (unsigned_abs (item xs k)) 0) (zero_not k n xs (omega (arith, l, ne)) h)
]
  where
    nonzero : (z : ℤ) → (z ≡ pos 0 → ⊥) → nat_eq (unsigned_abs z) 0 ≡ false
    nonzero (pos zero) f = absurd (f refl)
    nonzero (pos (suc n)) f = grind (arith, nat_tests)
    nonzero (negsuc n) f = grind (arith, nat_tests)

    and_false : (a b : Bool) → b ≡ false → false ≡ a && b
    and_false true b e = sym e
    and_false false b e = refl
