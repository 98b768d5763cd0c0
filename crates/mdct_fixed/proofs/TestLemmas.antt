-- Sizes of the lists that tests make.
use Rattle.std.proofs.Common.{◌≡◌, ℕ, ◌+◌, ◌<◌, ◌≤◌, sym, subst, inl, inr, arith, List, length, get_or}
use Rattle.std.specs.Prelude.{ℤ, pos, unsigned_abs, slice_set, All}
use Rattle.std.proofs.lemmas.Bool.{cases_eq}
use Rattle.std.proofs.lemmas.List.{get_or-set_same, get_or-set_other, get_or_default}
use Rattle.fixed_math.specs.Items.{item}

smaller : (k i : ℕ) → k < i + 1 → (k ≡ i → ⊥) → k < i
smaller k i h n = omega arith

-- one item more is small
pub put_small : (xs : List ℤ) (i n : ℕ) (v : ℤ) → i < length xs → unsigned_abs v ≤ n → ((k : ℕ) → k < i → unsigned_abs (item xs k) ≤ n) → (k : ℕ) → k < i + 1 → unsigned_abs (item (slice_set xs i v) k) ≤ n
put_small xs i n v l h s k lk = elim (cases_eq k i) [
  | inl e ↦ rw e (subst (λ z. unsigned_abs z ≤ n) (sym (get_or-set_same xs i v (pos 0) l)) h)
  | inr o ↦ subst (λ z. unsigned_abs z ≤ n) (sym (get_or-set_other xs i k v (pos 0) o)) (s k (smaller k i lk o))
]

pub one_more : (xs : List ℤ) (i n : ℕ) → unsigned_abs (item xs i) ≤ n → ((k : ℕ) → k < i → unsigned_abs (item xs k) ≤ n) → (k : ℕ) → k < i + 1 → unsigned_abs (item xs k) ≤ n
one_more xs i n h s k lk = elim (cases_eq k i) [
  | inl e ↦ rw e h
  | inr o ↦ s k (smaller k i lk o)
]

pub all_small : (xs : List ℤ) (m n : ℕ) → m ≤ n → ((k : ℕ) → k < length xs → unsigned_abs (item xs k) ≤ m) → All (λ v. unsigned_abs v ≤ n) xs
all_small xs m n l h = λ k d p.
    let e : get_or xs k d ≡ item xs k = get_or_default xs k d (pos 0) p in
    let s = h k p in
    subst (λ z. unsigned_abs z ≤ n) (sym e) (omega arith)

pub all_below : (xs : List ℤ) (m n : ℕ) → m < n → ((k : ℕ) → k < length xs → unsigned_abs (item xs k) ≤ m) → All (λ v. unsigned_abs v < n) xs
all_below xs m n l h = λ k d p.
    let e : get_or xs k d ≡ item xs k = get_or_default xs k d (pos 0) p in
    let s = h k p in
    subst (λ z. unsigned_abs z < n) (sym e) (omega arith)
