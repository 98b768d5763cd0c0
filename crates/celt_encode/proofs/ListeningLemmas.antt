-- Rows of the bands, and sums over them.
use Rattle.std.proofs.Common.{◌≡◌, ℕ, suc, inl, inr, ◌-◌, ◌+◌, ◌*◌, ◌^◌, ◌<◌, ◌≤◌, refl, sym, ap, subst, arith, ◌∙◌, List, Bool, false, length, get_or}
use Rattle.std.specs.Prelude.{IsTrue, ℤ, pos, neg_ℤ, int_div, ◌<ℤ◌, ◌+ℤ◌, ◌-ℤ◌, ◌*ℤ◌, unsigned_abs, All, map, slice_set, FitsSigned}
use Rattle.std.specs.Int.{w64, int_max, int_min}
use Rattle.std.specs.List.{range_with_len}
use Rattle.std.proofs.lemmas.Int.{ints, fits_signed_from_abs, unsigned_abs-mul, quot_fits}
use Rattle.std.proofs.lemmas.Bool.Decides.{nat_tests}
use Rattle.celt_base.specs.Ends.{is_band_end}
use Rattle.std.proofs.lemmas.Nat.{mul-le}
use Rattle.std.proofs.lemmas.Bool.{cases_eq}
use Rattle.std.proofs.lemmas.List.{length-set}
use Rattle.std.proofs.lemmas.List.Edits.{fill_by_more}
use Rattle.std.proofs.lemmas.List.FromFn.{fill_by_all}
use Rattle.fixed_math.specs.Items.{item, listed}
use Rattle.fixed_math.proofs.ItemLemmas.{put_next, listed_from, all_listed}
use Rattle.celt_analysis.specs.Sums.{signed_sum}

-- a row of 21 numbers, of which the first n are those of f
pub record RowTo (f : ℕ → ℤ) (row : List ℤ) (n : ℕ) : Type 0 where
  pub count : length row ≡ 21
  pub done : (p : ℕ) → p < n → item row p ≡ f p
  pub small : (p : ℕ) → p < n → unsigned_abs (f p) < 2 ^ 15

pub row_first : (f : ℕ → ℤ) (row : List ℤ) → length row ≡ 21 → RowTo f row 0
row_first f row e = record { count = e; done = λ p l. absurd (omega (arith, l)); small = λ p l. absurd (omega (arith, l)) }

pub row_next : (f : ℕ → ℤ) (row : List ℤ) (n : ℕ) (v : ℤ) → n < 21 → v ≡ f n → unsigned_abs v < 2 ^ 15 → RowTo f row n → RowTo f (slice_set row n v) (n + 1)
row_next f row n v l e s h =
    let room : n < length row = omega (arith, h.count, l) in
    record {
      count = length-set row n v ∙ h.count;
      done = put_next row n f v room e h.done;
      small = λ p q. elim (cases_eq p n) [
        | inl a ↦ subst (λ k. unsigned_abs (f k) < 2 ^ 15) (sym a) (subst (λ z. unsigned_abs z < 2 ^ 15) e s)
        | inr ne ↦ h.small p (smaller p n q ne)
      ];
    }
  where
    smaller : (p i : ℕ) → p < i + 1 → (p ≡ i → ⊥) → p < i
    smaller p i q ne = omega (arith, q, ne)

pub row_whole : (f : ℕ → ℤ) (row : List ℤ) (n : ℕ) → 21 ≤ n → RowTo f row n → row ≡ listed 21 f
row_whole f row n l h = listed_from row 21 f h.count (λ p q. h.done p (omega (arith, q, l)))

pub row_small : (f : ℕ → ℤ) (row : List ℤ) (n : ℕ) → 21 ≤ n → RowTo f row n → All (λ v. unsigned_abs v ≤ 2 ^ 16) row
row_small f row n l h = all_listed (λ v. unsigned_abs v ≤ 2 ^ 16) row 21 f (row_whole f row n l h) (λ p q. omega (arith, h.small p (omega (arith, q, l))))

-- 21 flags, of which the first n are those of f
pub record FlagsTo (f : ℕ → Bool) (flags : List Bool) (n : ℕ) : Type 0 where
  pub count : length flags ≡ 21
  pub done : (p : ℕ) → p < n → get_or flags p false ≡ f p

pub flags_first : (f : ℕ → Bool) (flags : List Bool) → length flags ≡ 21 → FlagsTo f flags 0
flags_first f flags e = record { count = e; done = λ p l. absurd (omega (arith, l)) }

pub flags_next : (f : ℕ → Bool) (flags : List Bool) (n : ℕ) (b : Bool) → n < 21 → b ≡ f n → FlagsTo f flags n → FlagsTo f (slice_set flags n b) (n + 1)
flags_next f flags n b l e h =
    record {
      count = length-set flags n b ∙ h.count;
      done = subst (λ b. (p : ℕ) → p < n + 1 → get_or (slice_set flags n b) p false ≡ f p) (sym e) (fill_by_more f flags n false (omega (arith, h.count, l)) h.done);
    }

pub flags_whole : (f : ℕ → Bool) (flags : List Bool) (n : ℕ) → 21 ≤ n → FlagsTo f flags n → flags ≡ map f (range_with_len 0 21)
flags_whole f flags n l h = fill_by_all f flags 21 false h.count (λ p q. h.done p (omega (arith, q, l)))

-- ---- a sum of numbers of a size

pub record SumTo (f : ℕ → ℤ) (sum : ℤ) (n : ℕ) : Type 0 where
  pub value : sum ≡ signed_sum f n
  pub size : unsigned_abs sum ≤ n * 2 ^ 21

pub sum_first : (f : ℕ → ℤ) → SumTo f (pos 0) 0
unfolding signed_sum
sum_first f = record { value = refl; size = omega arith }

pub sum_next : (f : ℕ → ℤ) (sum v : ℤ) (n : ℕ) → v ≡ f n → unsigned_abs v ≤ 2 ^ 21 → SumTo f sum n → SumTo f (sum +ℤ v) (n + 1)
unfolding signed_sum
sum_next f sum v n e s h = record {
  value = (λ k. h.value k +ℤ e k) ∙ ap (signed_sum f) (one n);
  size = omega (arith, ints, s, h.size);
}
  where
    one : (n : ℕ) → suc n ≡ n + 1
    one n = omega arith

-- 2h less two others
pub record AboveSteps (h a b : ℤ) : Type 0 where
  pub height : FitsSigned w64 h
  pub below : FitsSigned w64 a
  pub behind : FitsSigned w64 b
  pub twice : FitsSigned w64 (pos 2 *ℤ h)
  pub less : FitsSigned w64 (pos 2 *ℤ h -ℤ a)
  pub least : FitsSigned w64 (pos 2 *ℤ h -ℤ a -ℤ b)

pub above_steps : (h a b : ℤ) → unsigned_abs h < 2 ^ 15 → unsigned_abs a < 2 ^ 15 → unsigned_abs b < 2 ^ 15 → AboveSteps h a b
above_steps h a b p q r = record {
  height = fits_signed_from_abs w64 _ (omega (arith, p));
  below = fits_signed_from_abs w64 _ (omega (arith, q));
  behind = fits_signed_from_abs w64 _ (omega (arith, r));
  twice = fits_signed_from_abs w64 _ (omega (arith, ints, p));
  less = fits_signed_from_abs w64 _ (omega (arith, ints, p, q));
  least = fits_signed_from_abs w64 _ (omega (arith, ints, p, q, r));
}

-- the product of a height and the way of its band
pub record LeverSteps (h x y : ℤ) (b e : ℕ) : Type 0 where
  pub height : FitsSigned w64 h
  pub band : FitsSigned w64 x
  pub end : FitsSigned w64 y
  pub twice : FitsSigned w64 (pos 2 *ℤ x)
  pub more : FitsSigned w64 (pos 2 *ℤ x +ℤ pos 1)
  pub way : FitsSigned w64 (pos 2 *ℤ x +ℤ pos 1 -ℤ y)
  pub product : FitsSigned w64 (h *ℤ (pos 2 *ℤ x +ℤ pos 1 -ℤ y))
  pub value : h *ℤ (pos 2 *ℤ x +ℤ pos 1 -ℤ y) ≡ h *ℤ (pos (2 * b + 1) -ℤ pos e)
  pub size : unsigned_abs (h *ℤ (pos 2 *ℤ x +ℤ pos 1 -ℤ y)) ≤ 2 ^ 21

pub lever_steps : (h x y : ℤ) (b e : ℕ) → pos b ≡ x → pos e ≡ y → unsigned_abs h < 2 ^ 15 → b < e → e ≤ 21 → LeverSteps h x y b e
lever_steps h x y b e ex ey s l m = subst (λ x. LeverSteps h x y b e) ex (subst (λ y. LeverSteps h (pos b) y b e) ey at_numbers)
  where
    way_small : unsigned_abs (pos 2 *ℤ pos b +ℤ pos 1 -ℤ pos e) ≤ 2 ^ 6
    way_small = omega (arith, ints, l, m)

    product_small : unsigned_abs (h *ℤ (pos 2 *ℤ pos b +ℤ pos 1 -ℤ pos e)) ≤ 2 ^ 21
    product_small =
        subst (λ n. n ≤ 2 ^ 21) (sym (unsigned_abs-mul h (pos 2 *ℤ pos b +ℤ pos 1 -ℤ pos e)))
        (mul-le (unsigned_abs h) (unsigned_abs (pos 2 *ℤ pos b +ℤ pos 1 -ℤ pos e)) (2 ^ 15) (2 ^ 6) (omega (arith, s)) way_small)

    same : pos 2 *ℤ pos b +ℤ pos 1 -ℤ pos e ≡ pos (2 * b + 1) -ℤ pos e
    same = omega (arith, ints)

    at_numbers : LeverSteps h (pos b) (pos e) b e
    at_numbers = record {
      height = fits_signed_from_abs w64 _ (omega (arith, s));
      band = fits_signed_from_abs w64 _ (omega (arith, ints, l, m));
      end = fits_signed_from_abs w64 _ (omega (arith, ints, m));
      twice = fits_signed_from_abs w64 _ (omega (arith, ints, l, m));
      more = fits_signed_from_abs w64 _ (omega (arith, ints, l, m));
      way = fits_signed_from_abs w64 _ (omega (arith, way_small));
      product = fits_signed_from_abs w64 _ (omega (arith, product_small));
      value = ap (λ w. h *ℤ w) same;
      size = product_small;
    }

-- the quotient of a rise, from -2 to 2, and what it leaves of 5
abbrev pub within_two : ℤ → ℤ
within_two q = int_max (neg_ℤ (pos 2)) (int_min q (pos 2))

pub record TrimSteps (r x : ℤ) (e : ℕ) : Type 0 where
  pub rise : FitsSigned w64 r
  pub end : FitsSigned w64 x
  pub less : FitsSigned w64 (x -ℤ pos 1)
  pub width : FitsSigned w64 (pos 6144 *ℤ (x -ℤ pos 1))
  pub quotient : FitsSigned w64 (int_div r (pos 6144 *ℤ (x -ℤ pos 1)))
  pub limited : FitsSigned w64 (within_two (int_div r (pos 6144 *ℤ (x -ℤ pos 1))))
  pub left : FitsSigned w64 (pos 5 -ℤ within_two (int_div r (pos 6144 *ℤ (x -ℤ pos 1))))
  pub value : int_div r (pos 6144 *ℤ (x -ℤ pos 1)) ≡ int_div r (pos (6144 * (e - 1)))

pub within-size : (q : ℤ) → unsigned_abs (within_two q) ≤ 2
within-size q = grind (arith, ints)

pub trim_steps : (r x : ℤ) (e : ℕ) → pos e ≡ x → 2 ≤ e → e ≤ 21 → unsigned_abs r ≤ 2 ^ 26 → TrimSteps r x e
trim_steps r x e ex l m s = subst (λ x. TrimSteps r x e) ex at_number
  where
    fr : FitsSigned w64 r
    fr = fits_signed_from_abs w64 _ (omega (arith, s))

    same : pos 6144 *ℤ (pos e -ℤ pos 1) ≡ pos (6144 * (e - 1))
    same = omega (arith, ints, l)

    some : pos 0 <ℤ pos (6144 * (e - 1))
    some = omega (arith, ints, l)

    at_number : TrimSteps r (pos e) e
    at_number =
        let small : unsigned_abs (within_two (int_div r (pos 6144 *ℤ (pos e -ℤ pos 1)))) ≤ 2 = within-size (int_div r (pos 6144 *ℤ (pos e -ℤ pos 1))) in
        record {
          rise = fr;
          end = fits_signed_from_abs w64 _ (omega (arith, m));
          less = fits_signed_from_abs w64 _ (omega (arith, ints, m));
          width = fits_signed_from_abs w64 _ (omega (arith, ints, m));
          quotient = quot_fits w64 r (pos 6144 *ℤ (pos e -ℤ pos 1)) fr (subst (λ d. pos 0 <ℤ d) (sym same) some);
          limited = fits_signed_from_abs w64 _ (omega (arith, small));
          left = fits_signed_from_abs w64 _ (lessened (within_two (int_div r (pos 6144 *ℤ (pos e -ℤ pos 1)))) small);
          value = ap (int_div r) same;
        }
      where
        lessened : (z : ℤ) → unsigned_abs z ≤ 2 → unsigned_abs (pos 5 -ℤ z) < 2 ^ 63
        lessened z h = omega (arith, ints, h)

-- a kind has from 13 to 21 bands
pub end_least : (n : ℕ) → IsTrue (is_band_end n) → 13 ≤ n
end_least n is = grind (arith, nat_tests)
