-- Lists by places: one place written, and lists that agree at each place.
use Rattle.std.proofs.Common.{◌≡◌, ℕ, ◌+◌, ◌<◌, ◌≤◌, sym, subst, inl, inr, arith, ap, ◌∙◌, List, length, get_or}
use Rattle.std.specs.Prelude.{ℤ, pos, unsigned_abs, slice_set, All}
use Rattle.std.proofs.lemmas.Bool.{cases_lt, cases_eq}
use Rattle.std.proofs.lemmas.List.{get_or-set_same, get_or-set_other, same_lists, get_or_default, get_or_past}
use Rattle.std.proofs.lemmas.List.FromFn.{get_or-map-range_with_len, length-map-range_with_len}
use Rattle.fixed_math.specs.Items.{item, listed}

-- an item of a list that is given by its places
pub item-listed : (n : ℕ) (f : ℕ → ℤ) (p : ℕ) → p < n → item (listed n f) p ≡ f p
item-listed n f p h = get_or-map-range_with_len f 0 n p p (pos 0) h (omega arith)

pub length-listed : (n : ℕ) (f : ℕ → ℤ) → length (listed n f) ≡ n
length-listed n f = length-map-range_with_len f 0 n

-- lists that agree at each place are one
pub same_items : (xs ys : List ℤ) → length xs ≡ length ys → ((p : ℕ) → p < length xs → item xs p ≡ item ys p) → xs ≡ ys
same_items xs ys e h = same_lists xs ys e same
  where
    same : (k : ℕ) (d : ℤ) → k < length xs → get_or xs k d ≡ get_or ys k d
    same k d l =
        let a : get_or xs k d ≡ item xs k = get_or_default xs k d (pos 0) l in
        let b : get_or ys k d ≡ item ys k = get_or_default ys k d (pos 0) (omega arith) in
        a ∙ h k l ∙ sym b

-- a list is the one that its places give
pub listed_from : (xs : List ℤ) (n : ℕ) (f : ℕ → ℤ) → length xs ≡ n → ((p : ℕ) → p < n → item xs p ≡ f p) → xs ≡ listed n f
listed_from xs n f e h =
    same_items xs (listed n f) (e ∙ sym (length-listed n f)) (λ p l. let q : p < n = omega arith in h p q ∙ sym (item-listed n f p q))

-- a bound of each item of a list bounds what is read at any place
pub item_within : (xs : List ℤ) (m p : ℕ) → All (λ v. unsigned_abs v ≤ m) xs → unsigned_abs (item xs p) ≤ m
item_within xs m p h = elim (cases_lt p (length xs)) [
  | inl l ↦ h p (pos 0) l
  | inr l ↦ let e : item xs p ≡ pos 0 = get_or_past xs p (pos 0) l in subst (λ v. unsigned_abs v ≤ m) (sym e) (omega arith)
]

-- the places below i + 1 from those below i
pub put_next : (xs : List ℤ) (i : ℕ) (f : ℕ → ℤ) (v : ℤ) → i < length xs → v ≡ f i → ((p : ℕ) → p < i → item xs p ≡ f p) → (p : ℕ) → p < i + 1 → item (slice_set xs i v) p ≡ f p
put_next xs i f v l e h p q = elim (cases_eq p i) [
  | inl s ↦ rw s (get_or-set_same xs i v (pos 0) l ∙ e)
  | inr n ↦
      let less : p < i = smaller p i q n in
      get_or-set_other xs i p v (pos 0) n ∙ h p less
]
  where
    smaller : (p i : ℕ) → p < i + 1 → (p ≡ i → ⊥) → p < i
    smaller p i q n = omega arith

-- what holds of each f p holds of each item of the list
pub all_listed : (P : ℤ → Type 0) (xs : List ℤ) (n : ℕ) (f : ℕ → ℤ) → xs ≡ listed n f → ((p : ℕ) → p < n → P (f p)) → All P xs
all_listed P xs n f e h = λ k d l.
    let r : length xs ≡ n = ap length e ∙ length-listed n f in
    let q : k < n = omega arith in
    let a : get_or xs k d ≡ f k = ap (λ ys. get_or ys k d) e ∙ get_or-map-range_with_len f 0 n k k d q (omega arith) in
    subst P (sym a) (h k q)

pub item_below : (xs : List ℤ) (m p : ℕ) → 0 < m → All (λ v. unsigned_abs v < m) xs → unsigned_abs (item xs p) < m
item_below xs m p s h = elim (cases_lt p (length xs)) [
  | inl l ↦ h p (pos 0) l
  | inr l ↦ let e : item xs p ≡ pos 0 = get_or_past xs p (pos 0) l in subst (λ v. unsigned_abs v < m) (sym e) (omega arith)
]
