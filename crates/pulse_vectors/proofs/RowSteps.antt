-- How a row follows from the row for one number fewer, and how far a loop over it has come.
use Rattle.std.proofs.Common.{◌≡◌, ◌≢◌, ◌^◌, ◌⊎◌, ℕ, zero, suc, ◌+◌, ◌<◌, ◌≤◌, inl, inr, List, length, get_or, set, take, refl, sym, ◌∙◌, ap, arith, length-set, add-one, replicate}
use Rattle.std.proofs.lemmas.Bool.{cases_lt, cases_eq}
use Rattle.std.proofs.lemmas.List.{get_or-replicate, length-replicate, get_or-set_same, get_or-set_other}
use Rattle.pulse_vectors.specs.Rows.{IsRow}
use Rattle.pulse_vectors.specs.Vectors.{vectors, count_of}
use Rattle.pulse_vectors.proofs.Places.{count-suc, below-suc, below-zero}

pub count-none : count_of 0 0 ≡ 1
unfolding count_of vectors
count-none = refl

pub count-none-suc : (j : ℕ) → count_of 0 (suc j) ≡ 0
unfolding count_of vectors
count-none-suc j = refl

-- V(n, j - 1), and 0 before the row.
pub count_before : ℕ → ℕ → ℕ
count_before n zero = 0
count_before n (suc j) = count_of n j

pub before-suc : (n j : ℕ) → count_before n (suc j) ≡ count_of n j
unfolding count_before
before-suc n j = refl

pub before-zero : (n : ℕ) → count_before n 0 ≡ 0
unfolding count_before
before-zero n = refl

-- V(n + 1, j) = V(n + 1, j - 1) + V(n, j - 1) + V(n, j).
pub count-step : (n j : ℕ) → count_of (suc n) j ≡ count_before (suc n) j + count_before n j + count_of n j
unfolding count_before
count-step n zero = omega (arith, count-suc n 0, below-zero n)
count-step n (suc j) = omega (arith, count-suc n (suc j), count-suc n j, below-suc n j)

-- The counts of a row do not fall, from one number on.
pub count_rises : (n j k : ℕ) → j ≤ k → count_of (suc n) j ≤ count_of (suc n) k
count_rises n j zero h = let e : j ≡ 0 = omega arith in rw e (omega arith)
count_rises n j (suc k) h = elim (cases_lt k j) [
  | inl last ↦ let e : j ≡ suc k = omega arith in rw e (omega arith)
  | inr within ↦ omega (arith, count-step n (suc k), before-suc (suc n) k, count_rises n j k within)
]

-- A loop over a row of n numbers has made its first i counts those of m numbers.
pub record Changing (n m : ℕ) (counts : List ℕ) (i last before : ℕ) : Type 0 where
  pub last_is : last ≡ count_before m i
  pub before_is : before ≡ count_before n i
  pub done : (j : ℕ) → j < i → get_or counts j 0 ≡ count_of m j
  pub ahead : (j : ℕ) → i ≤ j → j < length counts → get_or counts j 0 ≡ count_of n j

pub changing-start : (n n' m k : ℕ) (counts : List ℕ) → n ≡ n' → IsRow n (take (k + 1) counts) → Changing n' m (take (k + 1) counts) 0 0 0
changing-start n n' m k counts e row = record {
  last_is = sym (before-zero m);
  before_is = sym (before-zero n');
  done = λ j h. absurd (omega arith);
  ahead = λ j h g. row.each j g ∙ ap (λ n. count_of n j) e;
}

pub changing-next : (n m : ℕ) (counts : List ℕ) (i last before now : ℕ) → Changing n m counts i last before → i < length counts
    → now ≡ count_of m i → Changing n m (set counts i now) (i + 1) now (get_or counts i 0)
changing-next n m counts i last before now c h e = record {
  last_is = rw add-one (e ∙ sym (before-suc m i));
  before_is = rw add-one (c.ahead i (omega arith) h ∙ sym (before-suc n i));
  done = λ j k. done_at j k (cases_eq j i);
  ahead = λ j k g. let ne : j ≢ i = omega arith in get_or-set_other counts i j now 0 ne ∙ c.ahead j (omega arith) (omega (arith, length-set counts i now));
}
  where
    done_at : (j : ℕ) → j < i + 1 → (j ≡ i) ⊎ (j ≡ i → ⊥) → get_or (set counts i now) j 0 ≡ count_of m j
    done_at j k (inl same) = rw same (get_or-set_same counts i now 0 h ∙ e)
    done_at j k (inr ne) = get_or-set_other counts i j now 0 ne ∙ c.done j (omega arith)

-- The loop upwards stores the next row's count.
pub raised-now : (n i : ℕ) (counts : List ℕ) (last before : ℕ) → Changing n (suc n) counts i last before → i < length counts
    → last + before + get_or counts i 0 ≡ count_of (suc n) i
raised-now n i counts last before c h = omega (arith, count-step n i, c.last_is, c.before_is, c.ahead i (omega arith) h)

pub raised-fits : (n k i : ℕ) (counts : List ℕ) (last before : ℕ) → Changing n (suc n) counts i last before → i < length counts
    → length counts ≤ k + 1 → count_of (n + 1) k < 2 ^ 32 → last + before + get_or counts i 0 < 2 ^ 32
raised-fits n k i counts last before c h l f =
    let f' = rw add-one at f in
    omega (arith, raised-now n i counts last before c h, count_rises n i k (omega arith))

-- The loop downwards stores the count of one number fewer.
pub lowered-now : (n m i : ℕ) (counts : List ℕ) (last before : ℕ) → n ≡ suc m → Changing n m counts i last before → i < length counts
    → get_or counts i 0 ≡ count_of m i + before + last
lowered-now n m i counts last before e c h =
    let a = rw e at (c.ahead i (omega arith) h) in
    let b = rw e at c.before_is in
    omega (arith, count-step m i, c.last_is)

pub lowered-fits : (n m i : ℕ) (counts : List ℕ) (last before : ℕ) → n ≡ suc m → Changing n m counts i last before → i < length counts
    → before + last ≤ get_or counts i 0
lowered-fits n m i counts last before e c h = omega (arith, lowered-now n m i counts last before e c h)

-- The row of no numbers: 1, 0, 0, ..
pub row-empty : (m : ℕ) → IsRow 0 (set (replicate (suc m) 0) 0 1)
row-empty m = record { each = λ j h. at j h }
  where
    at : (j : ℕ) → j < length {A = ℕ} (set (replicate (suc m) 0) 0 1) → get_or {A = ℕ} (set (replicate (suc m) 0) 0 1) j 0 ≡ count_of 0 j
    at zero h = sym count-none
    at (suc j) h = get_or-replicate m j 0 0 (omega (arith, length-replicate {A = ℕ} m 0)) ∙ sym (count-none-suc j)
