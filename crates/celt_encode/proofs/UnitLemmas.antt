-- The rows of vectors of unit length, and sums over them.
use Rattle.std.proofs.Common.{◌⊎◌, Bool, true, false, if◌then◌else◌, nat_lt, ◌≡◌, ℕ, zero, suc, ◌+◌, ◌-◌, ◌*◌, ◌^◌, ◌<◌, ◌≤◌, refl, sym, ap, subst, arith, ◌∙◌, inl, inr, List, [], ◌∷◌, ◌++◌, length, take, length-take}
use Rattle.std.specs.Prelude.{ℤ, pos, unsigned_abs, All, replicate, nat_le, slice_set, Option, Some}
use Rattle.std.proofs.lemmas.Nat.{mul-le}
use Rattle.std.proofs.lemmas.List.{take_all, drop_all, append-nil, append_assoc, replicate-append-replicate}
use Rattle.std.proofs.lemmas.List.Elements.{All-append}
use Rattle.std.proofs.Math.Nat.{pow-le-pow_right}
use Rattle.celt_base.specs.declared.kind.Kind.{Kind}
use Rattle.celt_base.proofs.BandEnds.{end_most}
use Rattle.celt_base.proofs.Below.{at_each, at_most}
use Rattle.celt_tables.specs.Tables.{edge_of, width_of, size_of}
use Rattle.celt_tables.proofs.Entries.{edges_rise}
use Rattle.fixed_math.specs.Items.{item}
use Rattle.fixed_math.specs.Unit.{unit_of}
use Rattle.celt_analysis.specs.Analyses.{spectrum_size}
use Rattle.celt_analysis.specs.Signals.{frame_size}
use Rattle.celt_analysis.proofs.SumLemmas.{sum_from-none, sum_from-more}
use Rattle.celt_encode.specs.Units.{start_of, band_of, units_below, unit_row, over_pairs}

-- where a band ends the next one begins
pub start_next : (kind : Kind) (b : ℕ) → b < 21 → start_of kind b + size_of kind b ≡ start_of kind (b + 1)
start_next kind b l =
    let r : edge_of b < edge_of (b + 1) = edges_rise b l in
    let e : edge_of b + width_of b ≡ edge_of (b + 1) = omega (arith, r) in
    parts (edge_of b) (width_of b) (2 ^ kind.lm) ∙ ap (λ n. n * 2 ^ kind.lm) e
  where
    parts : (a w m : ℕ) → a * m + w * m ≡ (a + w) * m
    parts a w m = omega arith

-- the first n bands of a row
pub record BandsTo (kind : Kind) (spectrum row : List ℤ) (n : ℕ) : Type 0 where
  pub count : length row ≡ 800
  pub front : take (start_of kind n) row ≡ units_below kind spectrum n
  pub sizes : All (λ x. unsigned_abs x ≤ 2 ^ 14) (units_below kind spectrum n)

pub bands_first : (kind : Kind) (spectrum row : List ℤ) → length row ≡ 800 → BandsTo kind spectrum row 0
unfolding units_below
bands_first kind spectrum row e = record { count = e; front = ap (λ k. take k row) (none kind); sizes = λ k d l. absurd (omega (arith, l)) }
  where
    none : (kind : Kind) → start_of kind 0 ≡ 0
    none kind = omega arith

pub bands_next : (kind : Kind) (spectrum old new items : List ℤ) (n at : ℕ) → n < 21 → at ≡ start_of kind n → items ≡ band_of kind spectrum n → length items ≡ size_of kind n
    → take (at + length items) new ≡ take at old ++ unit_of (pos 32768) items → length new ≡ length old
    → All (λ x. unsigned_abs x ≤ 2 ^ 14) (unit_of (pos 32768) items) → BandsTo kind spectrum old n → BandsTo kind spectrum new (n + 1)
unfolding units_below
bands_next kind spectrum old new items n at l ea ei ec f len s h =
    let next : suc n ≡ n + 1 = omega arith in
    let place : at + length items ≡ start_of kind (n + 1) = (λ k. ea k + ec k) ∙ start_next kind n l in
    let made : take at old ++ unit_of (pos 32768) items ≡ units_below kind spectrum (suc n) = (λ k. take (ea k) old ++ unit_of (pos 32768) (ei k)) ∙ ap (λ z. z ++ unit_of (pos 32768) (band_of kind spectrum n)) h.front in
    let all : All (λ x. unsigned_abs x ≤ 2 ^ 14) (units_below kind spectrum (suc n)) = All-append (λ x. unsigned_abs x ≤ 2 ^ 14) (units_below kind spectrum n) (unit_of (pos 32768) (band_of kind spectrum n)) h.sizes (subst (λ z. All (λ x. unsigned_abs x ≤ 2 ^ 14) (unit_of (pos 32768) z)) ei s) in
    record {
      count = len ∙ h.count;
      front = ap (λ k. take k new) (sym place) ∙ f ∙ made ∙ ap (units_below kind spectrum) next;
      sizes = subst (λ k. All (λ x. unsigned_abs x ≤ 2 ^ 14) (units_below kind spectrum k)) next all;
    }

-- what a band needs of its row
pub record BandRoom (kind : Kind) (b : ℕ) : Type 0 where
  pub within : start_of kind b + size_of kind b ≤ 800
  pub count : size_of kind b ≤ 176

pub band_room : (kind : Kind) (b : ℕ) → b < 21 → BandRoom kind b
band_room kind b l =
    let p : 2 ^ kind.lm ≤ 2 ^ 3 = pow-le-pow_right {n = 2} (omega arith) {i = kind.lm} {j = 3} kind.sized in
    let e : edge_of b + width_of b ≤ 100 = at_most _ _ (at_each (λ k. nat_le (edge_of k + width_of k) 100) 21 b refl l) in
    let w : width_of b ≤ 22 = at_most _ _ (at_each (λ k. nat_le (width_of k) 22) 21 b refl l) in
    record {
      within = subst (λ n. n ≤ 800) (sym (parts (edge_of b) (width_of b) (2 ^ kind.lm))) (mul-le (edge_of b + width_of b) (2 ^ kind.lm) 100 8 e p);
      count = mul-le (width_of b) (2 ^ kind.lm) 22 8 w p;
    }
  where
    parts : (a w m : ℕ) → a * m + w * m ≡ (a + w) * m
    parts a w m = omega arith

pub start_most : (kind : Kind) (b : ℕ) → b ≤ 21 → start_of kind b ≤ 800
start_most kind b l =
    let p : 2 ^ kind.lm ≤ 2 ^ 3 = pow-le-pow_right {n = 2} (omega arith) {i = kind.lm} {j = 3} kind.sized in
    let e : edge_of b ≤ 100 = at_most _ _ (at_each (λ k. nat_le (edge_of k) 100) 22 b refl (omega (arith, l))) in
    mul-le (edge_of b) (2 ^ kind.lm) 100 8 e p

-- ---- a whole row

none_below : (kind : Kind) (n : ℕ) → units_below kind [] n ≡ []
unfolding units_below unit_of
none_below kind zero = refl
none_below kind (suc n) =
    let e : band_of kind [] n ≡ [] = ap (take (size_of kind n)) (drop_all (start_of kind n) [] (omega arith)) ∙ take_all (size_of kind n) [] (omega arith) in
    (λ k. none_below kind n k ++ unit_of (pos 32768) (e k))

-- without a spectrum
pub row_none : (kind : Kind) (xs : List ℤ) → xs ≡ [] → replicate 800 (pos 0) ≡ unit_row kind xs
unfolding unit_row
row_none kind xs e =
    let n : units_below kind xs kind.end ≡ [] = ap (λ z. units_below kind z kind.end) e ∙ none_below kind kind.end in
    sym (ap (λ units. units ++ replicate (800 - length units) (pos 0)) n)

-- with the bands that were written
pub row_some : (kind : Kind) (spectrum row new : List ℤ) (at : ℕ) → at ≡ start_of kind kind.end → length row ≡ 800 → take (start_of kind kind.end) row ≡ units_below kind spectrum kind.end
    → new ≡ take at row ++ replicate (length row - at) (pos 0) → new ≡ unit_row kind spectrum
unfolding unit_row
row_some kind spectrum row new at ea len front e =
    let most : start_of kind kind.end ≤ 800 = start_most kind kind.end (end_most kind) in
    let here : take at row ≡ units_below kind spectrum kind.end = ap (λ n. take n row) ea ∙ front in
    let size : length (units_below kind spectrum kind.end) ≡ start_of kind kind.end = sym (ap length front) ∙ (length-take (start_of kind kind.end) row ∙ omega (arith, most, len)) in
    let rest : length row - at ≡ 800 - length (units_below kind spectrum kind.end) = omega (arith, len, ea, size) in
    e ∙ (λ k. here k ++ replicate (rest k) (pos 0))

-- ---- both rows

pub pair_set : (xss : List (List ℤ)) (ls rs : List ℤ) → length xss ≡ 2 → slice_set (slice_set xss 0 ls) 1 rs ≡ ls ∷ rs ∷ []
pair_set [] ls rs e = absurd (omega (arith, e))
pair_set (x ∷ []) ls rs e = absurd (omega (arith, e))
pair_set (x ∷ (y ∷ [])) ls rs e = refl
pair_set (x ∷ (y ∷ (z ∷ zs))) ls rs e = absurd (omega (arith, e))

pub no_items : (xs : List ℤ) → length xs ≡ 0 → xs ≡ []
no_items [] e = refl
no_items (x ∷ xs) e = absurd (omega (arith, e))

-- a spectrum is whole or empty
pub whole_or_none : (found : Option Kind) (kind : Kind) (c : ℕ) (xs : List ℤ) → found ≡ Some kind → length xs ≡ spectrum_size found c → (length xs ≡ frame_size kind) ⊎ (xs ≡ [])
unfolding spectrum_size
whole_or_none found kind c xs e n = by_test (nat_lt c kind.channels) refl
  where
    size : length xs ≡ (if nat_lt c kind.channels then frame_size kind else 0)
    size = n ∙ ap (λ f. spectrum_size f c) e

    by_test : (b : Bool) → nat_lt c kind.channels ≡ b → (length xs ≡ frame_size kind) ⊎ (xs ≡ [])
    by_test true t = inl (size ∙ ap (λ b. if b then frame_size kind else 0) t)
    by_test false t = inr (no_items xs (size ∙ ap (λ b. if b then frame_size kind else 0) t))

-- ---- sums over pairs

pub pairs_none : (f : ℤ → ℤ → ℕ) (l r : List ℤ) → 0 ≡ over_pairs f l r 0
pairs_none f l r = sym (sum_from-none (λ p. f (item l p) (item r p)) 0)

pub pairs_next : (f : ℤ → ℤ → ℕ) (l r : List ℤ) (n s v : ℕ) → s ≡ over_pairs f l r n → v ≡ f (item l n) (item r n) → s + v ≡ over_pairs f l r (n + 1)
pairs_next f l r n s v es ev =
    let at : 0 + n ≡ n = omega arith in
    (λ k. es k + ev k) ∙ ap (λ p. over_pairs f l r n + f (item l p) (item r p)) (sym at) ∙ sym (sum_from-more (λ p. f (item l p) (item r p)) 0 n)

-- ---- a row that is cleared from a place on, as far as another place
pub record Cleared (old row : List ℤ) (at from : ℕ) : Type 0 where
  pub count : length row ≡ length old
  pub behind : at ≤ from
  pub within : from ≤ length old
  pub front : take from row ≡ take at old ++ replicate (from - at) (pos 0)

pub cleared_first : (old : List ℤ) (at : ℕ) → at ≤ length old → Cleared old old at at
cleared_first old at l =
    let none : at - at ≡ 0 = omega arith in
    record {
      count = refl;
      behind = omega arith;
      within = l;
      front = sym (append-nil (take at old)) ∙ ap (λ n. take at old ++ replicate n (pos 0)) (sym none);
    }

pub cleared_next : (old row new : List ℤ) (at from n : ℕ) → from + n ≤ length row → take (from + n) new ≡ take from row ++ replicate n (pos 0) → length new ≡ length row → Cleared old row at from → Cleared old new at (from + n)
cleared_next old row new at from n l f len h =
    let more : from - at + n ≡ from + n - at = omega (arith, h.behind) in
    record {
      count = len ∙ h.count;
      behind = omega (arith, h.behind);
      within = omega (arith, l, h.count);
      front = f ∙ ap (λ z. z ++ replicate n (pos 0)) h.front ∙ append_assoc (take at old) (replicate (from - at) (pos 0)) (replicate n (pos 0))
          ∙ ap (λ z. take at old ++ z) (replicate-append-replicate (from - at) n (pos 0) ∙ ap (λ k. replicate k (pos 0)) more);
    }

pub cleared_whole : (old row : List ℤ) (at from : ℕ) → length row ≤ from → Cleared old row at from → row ≡ take at old ++ replicate (length old - at) (pos 0)
cleared_whole old row at from l h =
    let all : from - at ≡ length old - at = omega (arith, h.within, h.count, l) in
    sym (take_all from row l) ∙ h.front ∙ ap (λ k. take at old ++ replicate k (pos 0)) all
