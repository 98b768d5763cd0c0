-- De-emphasis in place, output by output; and that its equations have one solution.
use Rattle.std.proofs.Common.{◌≡◌, ◌≢◌, ℕ, zero, suc, ◌+◌, ◌*◌, ◌^◌, ◌<◌, ◌≤◌, sym, subst, inl, inr, arith, refl, ap, ◌∙◌, List, length}
use Rattle.std.specs.Prelude.{ℤ, pos, ◌+ℤ◌, unsigned_abs, slice_set, All}
use Rattle.std.proofs.lemmas.Int.{ints}
use Rattle.std.proofs.lemmas.Bool.{cases_eq}
use Rattle.std.proofs.lemmas.List.{get_or-set_same, get_or-set_other, get_or_default, ext_get_or}
use Rattle.fixed_math.proofs.RoundingLemmas.{product_rounded}
use Rattle.fixed_math.specs.Items.{item}
use Rattle.fixed_math.proofs.ItemLemmas.{item-listed, length-listed}
use Rattle.post_filter.specs.Deemphasis.{before, remainder, IsDeemphasis, output_before, deemphasized}

-- an output stays in its bound
pub remainder_size : (y : ℤ) → unsigned_abs y < 2 ^ 33 → unsigned_abs (remainder y) ≤ 27853 * 2 ^ 18
unfolding remainder
remainder_size y h = product_rounded (pos 27853) y 15 27853 (2 ^ 33) (27853 * 2 ^ 18) (omega arith) (omega arith) (omega arith) (omega arith)

pub output_size : (x y : ℤ) → unsigned_abs x ≤ 2 ^ 30 → unsigned_abs y < 2 ^ 33 → unsigned_abs (x +ℤ remainder y) < 2 ^ 33
output_size x y p q = omega (arith, ints, remainder_size y q)

-- the output before a place is one of the places below
pub before_set : (memory : ℤ) (ys : List ℤ) (n k : ℕ) (v : ℤ) → k ≤ n → before memory (slice_set ys n v) k ≡ before memory ys k
before_set memory ys n zero v h = refl
before_set memory ys n (suc k) v h =
    let ne : k ≢ n = λ e. absurd (omega arith) in
    get_or-set_other ys n k v (pos 0) ne

-- the first n outputs stand in ys, the items behind them are as before, and y is the last output
pub record Filtered (memory : ℤ) (xs ys : List ℤ) (n : ℕ) (y : ℤ) : Type 0 where
  pub each : (k : ℕ) → k < n → item ys k ≡ item xs k +ℤ remainder (before memory ys k)
  pub sizes : (k : ℕ) → k < n → unsigned_abs (item ys k) < 2 ^ 33
  pub ahead : (k : ℕ) → n ≤ k → item ys k ≡ item xs k
  pub last : y ≡ before memory ys n
  pub size : unsigned_abs y < 2 ^ 33

pub filtered_start : (memory : ℤ) (xs : List ℤ) → unsigned_abs memory < 2 ^ 33 → Filtered memory xs xs 0 memory
filtered_start memory xs h = record {
  each = λ k l. absurd (omega arith);
  sizes = λ k l. absurd (omega arith);
  ahead = λ k l. refl;
  last = refl;
  size = h;
}

smaller : (k n : ℕ) → k < n + 1 → (k ≡ n → ⊥) → k < n
smaller k n l d = omega arith

pub filtered_more : (memory : ℤ) (xs ys : List ℤ) (n : ℕ) (y v : ℤ) → n < length ys → v ≡ item ys n +ℤ remainder y → unsigned_abs v < 2 ^ 33 → Filtered memory xs ys n y → Filtered memory xs (slice_set ys n v) (n + 1) v
filtered_more memory xs ys n y v h e s f = record {
  each = λ k l. elim (cases_eq k n) [
    | inl q ↦ rw q (get_or-set_same ys n v (pos 0) h ∙ e ∙ ap (λ z. z +ℤ remainder y) (f.ahead n (omega arith)) ∙ ap (λ z. item xs n +ℤ remainder z) (f.last ∙ sym (before_set memory ys n n v (omega arith))))
    | inr q ↦
        let ne : k ≢ n = q in
        get_or-set_other ys n k v (pos 0) ne ∙ f.each k (smaller k n l q) ∙ ap (λ z. item xs k +ℤ remainder z) (sym (before_set memory ys n k v (omega (arith, smaller k n l q))))
  ];
  sizes = λ k l. elim (cases_eq k n) [
    | inl q ↦ rw q (subst (λ z. unsigned_abs z < 2 ^ 33) (sym (get_or-set_same ys n v (pos 0) h)) s)
    | inr q ↦
        let ne : k ≢ n = q in
        subst (λ z. unsigned_abs z < 2 ^ 33) (sym (get_or-set_other ys n k v (pos 0) ne)) (f.sizes k (smaller k n l q))
  ];
  ahead = λ k l.
      let ne : k ≢ n = λ q. absurd (omega arith) in
      get_or-set_other ys n k v (pos 0) ne ∙ f.ahead k (omega arith);
  last = sym (subst (λ k. before memory (slice_set ys n v) k ≡ v) (next n) (get_or-set_same ys n v (pos 0) h));
  size = s;
}
  where
    next : (n : ℕ) → suc n ≡ n + 1
    next n = omega arith

-- the same, as the code tells it
pub filtered_step : (memory : ℤ) (xs ys zs : List ℤ) (n m : ℕ) (y v : ℤ) → n < length ys → m ≡ n + 1 → v ≡ item ys n +ℤ remainder y → unsigned_abs v < 2 ^ 33 → zs ≡ slice_set ys n v → Filtered memory xs ys n y → Filtered memory xs zs m v
filtered_step memory xs ys zs n m y v h k e s l f =
    subst (λ ws. Filtered memory xs ws m v) (sym l) (subst (λ j. Filtered memory xs (slice_set ys n v) j v) (sym k) (filtered_more memory xs ys n y v h e s f))

pub filtered_end : (memory : ℤ) (xs ys : List ℤ) (n : ℕ) (y : ℤ) → n ≡ length xs → length ys ≡ length xs → Filtered memory xs ys n y → IsDeemphasis memory xs ys
filtered_end memory xs ys n y e l f = record {
  count = l;
  each = λ k h. f.each k (omega arith);
}

pub filtered_sizes : (memory : ℤ) (xs ys : List ℤ) (n : ℕ) (y : ℤ) → n ≡ length xs → length ys ≡ length xs → Filtered memory xs ys n y → All (λ v. unsigned_abs v < 2 ^ 33) ys
filtered_sizes memory xs ys n y e l f = λ k d h. subst (λ v. unsigned_abs v < 2 ^ 33) (sym (get_or_default ys k d (pos 0) h)) (f.sizes k (omega arith))

-- two lists of outputs agree in the output before each place, and so in each
same_before : (memory : ℤ) (xs ys zs : List ℤ) → IsDeemphasis memory xs ys → IsDeemphasis memory xs zs → (n : ℕ) → n ≤ length xs → before memory ys n ≡ before memory zs n
same_before memory xs ys zs p q zero h = refl
same_before memory xs ys zs p q (suc n) h = p.each n (omega arith) ∙ ap (λ y. item xs n +ℤ remainder y) (same_before memory xs ys zs p q n (omega arith)) ∙ sym (q.each n (omega arith))

pub same_outputs : (memory : ℤ) (xs ys zs : List ℤ) → IsDeemphasis memory xs ys → IsDeemphasis memory xs zs → ys ≡ zs
same_outputs memory xs ys zs p q = ext_get_or (pos 0) ys zs (p.count ∙ sym q.count) (λ n h. same_before memory xs ys zs p q (suc n) (omega (arith, p.count)))

-- the outputs as a function meet their equations, and what meets these is that function's list
pub output_none : (memory : ℤ) (x : ℕ → ℤ) → memory ≡ output_before memory x 0
unfolding output_before
output_none memory x = refl

pub output_more : (memory : ℤ) (x : ℕ → ℤ) (n : ℕ) (y v : ℤ) → y ≡ output_before memory x n → v ≡ x n +ℤ remainder y → v ≡ output_before memory x (suc n)
unfolding output_before
output_more memory x n y v e f = f ∙ ap (λ z. x n +ℤ remainder z) e

pub length-deemphasized : (memory : ℤ) (xs : List ℤ) → length (deemphasized memory xs) ≡ length xs
unfolding deemphasized
length-deemphasized memory xs = length-listed (length xs) (λ n. output_before memory (item xs) (suc n))

item-deemphasized : (memory : ℤ) (xs : List ℤ) (n : ℕ) → n < length xs → item (deemphasized memory xs) n ≡ output_before memory (item xs) (suc n)
unfolding deemphasized
item-deemphasized memory xs n h = item-listed (length xs) (λ k. output_before memory (item xs) (suc k)) n h

pub before-deemphasized : (memory : ℤ) (xs : List ℤ) (n : ℕ) → n ≤ length xs → before memory (deemphasized memory xs) n ≡ output_before memory (item xs) n
before-deemphasized memory xs zero h = output_none memory (item xs)
before-deemphasized memory xs (suc n) h = item-deemphasized memory xs n (omega arith)

pub deemphasized_are : (memory : ℤ) (xs : List ℤ) → IsDeemphasis memory xs (deemphasized memory xs)
deemphasized_are memory xs = record {
  count = length-deemphasized memory xs;
  each = λ n h. item-deemphasized memory xs n h ∙ sym (output_more memory (item xs) n (before memory (deemphasized memory xs) n) _ (before-deemphasized memory xs n (omega arith)) refl);
}

pub deemphasized_is : (memory : ℤ) (xs ys : List ℤ) → IsDeemphasis memory xs ys → ys ≡ deemphasized memory xs
deemphasized_is memory xs ys h = same_outputs memory xs ys (deemphasized memory xs) h (deemphasized_are memory xs)
