-- A list of the 21 bands that is filled from the lowest up.
use Rattle.std.proofs.Common.{◌≡◌, ℕ, zero, suc, [], ◌∷◌, ◌+◌, ◌<◌, List, length, get_or, set, map, replicate, refl, sym, ◌∙◌, inl, inr, arith}
use Rattle.std.proofs.lemmas.Bool.{cases_eq}
use Rattle.std.proofs.lemmas.List.{get_or-set_same, get_or-set_other, length-set, same_lists, get_or_default}
use Rattle.std.proofs.lemmas.List.FromFn.{get_or-map-range_with_len, length-map-range_with_len}
use Rattle.std.specs.List.{range_with_len}

-- the bands below `front` are those of f
pub record IsFront {A : Type 0} (blank : A) (xs : List A) (f : ℕ → A) (front : ℕ) : Type 0 where
  pub whole : length xs ≡ 21
  pub done : (k : ℕ) → k < front → get_or xs k blank ≡ f k

pub front_none : {A : Type 0} (blank : A) (xs : List A) (f : ℕ → A) → length xs ≡ 21 → IsFront blank xs f 0
front_none blank xs f whole = record { whole = whole; done = λ k below. absurd (omega arith) }

pub put_at : {A : Type 0} (blank : A) (xs : List A) (f : ℕ → A) (i : ℕ) (v : A)
    → i < length xs
    → v ≡ f i
    → ((k : ℕ) → k < i → get_or xs k blank ≡ f k)
    → (k : ℕ) → k < i + 1 → get_or (set xs i v) k blank ≡ f k
put_at blank xs f i v inside e done k below = elim (cases_eq k i) [
  | inl s ↦ rw s (get_or-set_same xs i v blank inside ∙ e)
  | inr n ↦ let less : k < i = smaller k i below n in get_or-set_other xs i k v blank n ∙ done k less
]
  where
    smaller : (p i : ℕ) → p < i + 1 → (p ≡ i → ⊥) → p < i
    smaller p i q n = omega arith

pub front_more : {A : Type 0} (blank : A) (xs : List A) (f : ℕ → A) (i : ℕ) (v : A)
    → i < 21
    → v ≡ f i
    → IsFront blank xs f i
    → IsFront blank (set xs i v) f (i + 1)
front_more blank xs f i v inside e front = record {
  whole = length-set xs i v ∙ front.whole;
  done = put_at blank xs f i v (let w = front.whole in omega (arith, w)) e front.done;
}

-- the whole list
pub front_all : {A : Type 0} (blank : A) (xs : List A) (f : ℕ → A) → IsFront blank xs f 21 → xs ≡ map f (range_with_len 0 21)
front_all {A} blank xs f front = same_lists xs (map f (range_with_len 0 21)) (front.whole ∙ sym (length-map-range_with_len f 0 21)) same
  where
    same : (k : ℕ) (d : A) → k < length xs → get_or xs k d ≡ get_or (map f (range_with_len 0 21)) k d
    same k d below =
        let w = front.whole in
        let inside : k < 21 = omega (arith, w) in
        get_or_default xs k d blank below ∙ front.done k inside ∙ sym (get_or-map-range_with_len f 0 21 k k d inside (omega arith))

-- a list of zeros
pub blank_item : (n k : ℕ) → get_or {A = ℕ} (replicate n 0) k 0 ≡ 0
blank_item zero k = refl
blank_item (suc n) zero = refl
blank_item (suc n) (suc k) = blank_item n k

-- a bound of all items
pub small_put : (xs : List ℕ) (i v most : ℕ) → 0 < most → v < most → ((k : ℕ) → get_or xs k 0 < most) → (k : ℕ) → get_or (set xs i v) k 0 < most
small_put xs i v most some small all k = elim (cases_eq k i) [
  | inl s ↦ rw s (at_place xs i)
  | inr n ↦ rw (get_or-set_other xs i k v 0 n) (all k)
]
  where
    at_place : (xs : List ℕ) (i : ℕ) → get_or (set xs i v) i 0 < most
    at_place [] i = some
    at_place (x ∷ xs) zero = small
    at_place (x ∷ xs) (suc i) = at_place xs i

pub small_none : (most : ℕ) → 0 < most → (k : ℕ) → get_or {A = ℕ} (replicate 21 0) k 0 < most
small_none most some k = let e : get_or {A = ℕ} (replicate 21 0) k 0 ≡ 0 = blank_item 21 k in rw e some
