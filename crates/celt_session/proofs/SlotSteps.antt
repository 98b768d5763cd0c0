-- Lists of which one entry after the other is set.
use Rattle.std.proofs.Common.{◌≡◌, ◌≢◌, ℕ, suc, ◌+◌, ◌*◌, ◌<◌, ◌≤◌, List, length, slice_set, inl, inr, sym, subst, arith}
use Rattle.std.specs.Prelude.{slice_index_or}
use Rattle.std.proofs.lemmas.Bool.{cases_eq}
use Rattle.std.proofs.lemmas.Nat.{mul-le}
use Rattle.std.proofs.lemmas.List.{get_or-set_same, get_or-set_other, length-set}

set_same : {A : Type 0} (P : ℕ → A → Type 0) (xs : List A) (k j : ℕ) (x d : A) → k < length xs → j ≡ k → P k x → P j (slice_index_or (slice_set xs k x) j d)
set_same P xs k j x d less same p =
    subst (λ i. P i (slice_index_or (slice_set xs k x) i d)) (sym same) (subst (P k) (sym (get_or-set_same xs k x d less)) p)

set_other : {A : Type 0} (P : ℕ → A → Type 0) (xs : List A) (k j : ℕ) (x d : A) → j ≢ k → P j (slice_index_or xs j d) → P j (slice_index_or (slice_set xs k x) j d)
set_other P xs k j x d other p = subst (P j) (sym (get_or-set_other xs k j x d other)) p

-- what holds of each entry holds after one is set, of which it holds
pub set_all : {A : Type 0} (P : ℕ → A → Type 0) (xs : List A) (k : ℕ) (x : A) → k < length xs
    → ((j : ℕ) (d : A) → j < length xs → P j (slice_index_or xs j d))
    → P k x
    → (j : ℕ) (d : A) → j < length (slice_set xs k x) → P j (slice_index_or (slice_set xs k x) j d)
set_all P xs k x less all p j d below =
    elim (cases_eq j k) [
      | inl same ↦ set_same P xs k j x d less same p
      | inr other ↦ set_other P xs k j x d other (all j d (let e = length-set xs k x in omega (arith, e, below)))
    ]

-- of the first entries: one more
pub set_more : {A : Type 0} (P : ℕ → A → Type 0) (xs : List A) (k : ℕ) (x : A) → k < length xs
    → ((j : ℕ) (d : A) → j < k → P j (slice_index_or xs j d))
    → P k x
    → (j : ℕ) (d : A) → j < k + 1 → P j (slice_index_or (slice_set xs k x) j d)
set_more P xs k x less before p j d below =
    elim (cases_eq j k) [
      | inl same ↦ set_same P xs k j x d less same p
      | inr other ↦ set_other P xs k j x d other (before j d (omega arith))
    ]

-- ---- windows of a batch

-- window k of n, each of which begins d samples of c channels behind the one before, ends within the batch
pub window_inside : (c d k n len : ℕ) → len ≡ c * (1145 + n * d) → k < n → k * (c * d) + c * (1145 + 1 * d) ≤ len
window_inside c d k n len size less =
    let m : suc k * d ≤ n * d = mul-le (suc k) d n d less (omega arith) in
    let p : c * (suc k * d) ≤ c * (n * d) = mul-le c (suc k * d) c (n * d) (omega arith) m in
    let a : k * (c * d) + c * (1145 + 1 * d) ≡ c * 1145 + c * (suc k * d) = omega arith in
    let b : c * (1145 + n * d) ≡ c * 1145 + c * (n * d) = omega arith in
    omega (arith, size, p, a, b)

pub window_start : (c d k : ℕ) → k * (c * d) ≡ c * (k * d)
window_start c d k = omega arith
