-- Lists that are filled from the front, item by item.
use Rattle.std.proofs.Common.{◌≡◌, ℕ, ◌+◌, ◌<◌, ◌≤◌, sym, subst, inl, inr, arith, List, length}
use Rattle.std.specs.Prelude.{ℤ, pos, unsigned_abs, slice_set, All}
use Rattle.std.proofs.lemmas.Bool.{cases_eq}
use Rattle.std.proofs.lemmas.List.{get_or-set_same, get_or-set_other, get_or_default}
use Rattle.fixed_math.specs.Items.{item, listed}
use Rattle.fixed_math.proofs.ItemLemmas.{put_next, listed_from}

-- the first n items are those of f, and below m in size
pub record Filled (f : ℕ → ℤ) (m n : ℕ) (xs : List ℤ) : Type 0 where
  pub each : (p : ℕ) → p < n → item xs p ≡ f p
  pub sizes : (p : ℕ) → p < n → unsigned_abs (item xs p) < m

pub filled_none : (f : ℕ → ℤ) (m : ℕ) (xs : List ℤ) → Filled f m 0 xs
filled_none f m xs = record {
  each = λ p h. absurd (omega (arith, h));
  sizes = λ p h. absurd (omega (arith, h));
}

pub filled_next : (f : ℕ → ℤ) (m i : ℕ) (xs : List ℤ) (v : ℤ) → i < length xs → v ≡ f i → unsigned_abs v < m → Filled f m i xs → Filled f m (i + 1) (slice_set xs i v)
filled_next f m i xs v l e s h = record {
  each = put_next xs i f v l e h.each;
  sizes = λ p q. elim (cases_eq p i) [
    | inl a ↦ subst (λ k. unsigned_abs (item (slice_set xs i v) k) < m) (sym a) (subst (λ z. unsigned_abs z < m) (sym (get_or-set_same xs i v (pos 0) l)) s)
    | inr n ↦ subst (λ z. unsigned_abs z < m) (sym (get_or-set_other xs i p v (pos 0) n)) (h.sizes p (smaller p i q n))
  ];
}
  where
    smaller : (p i : ℕ) → p < i + 1 → (p ≡ i → ⊥) → p < i
    smaller p i q n = omega arith

pub filled_first : (f : ℕ → ℤ) (m : ℕ) (xs : List ℤ) (v : ℤ) → 1 ≤ length xs → v ≡ f 0 → unsigned_abs v < m → Filled f m 1 (slice_set xs 0 v)
filled_first f m xs v l e s = filled_next f m 0 xs v (omega (arith, l)) e s (filled_none f m xs)

pub filled_list : (f : ℕ → ℤ) (m n k : ℕ) (xs : List ℤ) → length xs ≡ k → k ≤ n → Filled f m n xs → xs ≡ listed k f
filled_list f m n k xs e l h = listed_from xs k f e (λ p q. h.each p (omega (arith, q, l)))

pub filled_sizes : (f : ℕ → ℤ) (m n : ℕ) (xs : List ℤ) → length xs ≤ n → Filled f m n xs → All (λ v. unsigned_abs v < m) xs
filled_sizes f m n xs l h = λ k d q. subst (λ z. unsigned_abs z < m) (sym (get_or_default xs k d (pos 0) q)) (h.sizes k (omega (arith, q, l)))
