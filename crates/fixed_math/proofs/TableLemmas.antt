-- Tables that are filled from the front: one entry more.
use Rattle.std.proofs.Common.{◌≡◌, ℕ, zero, suc, ◌+◌, ◌<◌, ◌≤◌, subst, sym, inl, inr, arith, List, length, get_or, Bool, true, ◌&&◌}
use Rattle.std.specs.Prelude.{slice_set}
use Rattle.std.proofs.lemmas.List.{get_or-set_same, get_or-set_other}
use Rattle.std.proofs.lemmas.Bool.{cases_eq, and_parts}

-- what holds of each entry below i, and of the one put at i, holds of each below i + 1
pub put_more : (P : ℕ → ℕ → Type 0) (xs : List ℕ) (i n : ℕ) → i < length xs → ((k : ℕ) → k < i → P k (get_or xs k 0)) → P i n → (k : ℕ) → k < i + 1 → P k (get_or (slice_set xs i n) k 0)
put_more P xs i n h done here k p =
    elim (cases_eq k i) [
      | inl e ↦ subst (λ j. P j (get_or (slice_set xs i n) j 0)) (sym e) (subst (P i) (sym (get_or-set_same xs i n 0 h)) here)
      | inr ne ↦ subst (P k) (sym (get_or-set_other xs i k n 0 ne)) (done k (below k i p ne))
    ]
  where
    below : (k i : ℕ) → k < i + 1 → (k ≡ i → ⊥) → k < i
    below k i p ne = omega arith

-- a test of n numbers from j on
abbrev pub all_from : (ℕ → Bool) → ℕ → ℕ → Bool
all_from test zero j = true
all_from test (suc n) j = test j && all_from test n (suc j)

pub all_from-at : (test : ℕ → Bool) (n j k : ℕ) → all_from test n j ≡ true → k < n → test (j + k) ≡ true
all_from-at test zero j k h p = absurd (omega arith)
all_from-at test (suc n) j zero h p =
    let e : j ≡ j + 0 = omega arith in
    subst (λ i. test i ≡ true) e (and_parts (test j) (all_from test n (suc j)) h).0
all_from-at test (suc n) j (suc k) h p =
    let e : suc j + k ≡ j + suc k = omega arith in
    subst (λ i. test i ≡ true) e (all_from-at test n (suc j) k (and_parts (test j) (all_from test n (suc j)) h).1 (omega arith))

-- what rises at each step rises over any distance
pub climbs : (h : ℕ → ℕ) (n i d : ℕ) → ((k : ℕ) → k < n → h k < h (suc k)) → i + d < n → h i < h (suc (i + d))
climbs h n i zero step p =
    let e : i ≡ i + 0 = omega arith in
    subst (λ k. h i < h (suc k)) e (step i (omega arith))
climbs h n i (suc d) step p =
    let e : suc (i + d) ≡ i + suc d = omega arith in
    let q : h i < h (suc (i + d)) = climbs h n i d step (omega arith) in
    let r : h (suc (i + d)) < h (suc (suc (i + d))) = step (suc (i + d)) (omega arith) in
    subst (λ k. h i < h (suc k)) e (omega arith)

-- what never falls at a step never falls
pub rises_over : (h : ℕ → ℕ) → ((k : ℕ) → h k ≤ h (suc k)) → (i d : ℕ) → h i ≤ h (i + d)
rises_over h step i zero =
    let e : i ≡ i + 0 = omega arith in
    subst (λ k. h i ≤ h k) e (omega arith)
rises_over h step i (suc d) =
    let e : suc (i + d) ≡ i + suc d = omega arith in
    let q : h i ≤ h (i + d) = rises_over h step i d in
    let r : h (i + d) ≤ h (suc (i + d)) = step (i + d) in
    subst (λ k. h i ≤ h k) e (omega arith)
