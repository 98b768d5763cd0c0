-- Lists by places: one place of a run written, and a run of places more.
use Rattle.std.proofs.Common.{◌≡◌, ◌≢◌, ℕ, ◌+◌, ◌-◌, ◌*◌, ◌<◌, ◌≤◌, sym, subst, inl, inr, arith, refl, ◌∙◌, List, length, get_or}
use Rattle.std.specs.Prelude.{ℤ, pos, unsigned_abs, slice_set, All}
use Rattle.std.proofs.lemmas.Bool.{cases_lt, cases_eq}
use Rattle.std.proofs.lemmas.List.{get_or-set_same, get_or-set_other, same_lists, get_or_default, get_or_past}
use Rattle.std.proofs.lemmas.List.FromFn.{get_or-map-range_with_len, length-map-range_with_len}
use Rattle.fixed_math.specs.Items.{item, listed}

-- one place of a run more
pub put_here : (xs : List ℤ) (start j : ℕ) (f : ℕ → ℤ) (v : ℤ) → start + j < length xs → v ≡ f j → ((k : ℕ) → k < j → item xs (start + k) ≡ f k) → (k : ℕ) → k < j + 1 → item (slice_set xs (start + j) v) (start + k) ≡ f k
put_here xs start j f v l e h k p = elim (cases_eq k j) [
  | inl s ↦ rw s (get_or-set_same xs (start + j) v (pos 0) l ∙ e)
  | inr n ↦
      let ne : start + k ≢ start + j = λ q. n (omega arith) in
      let less : k < j = smaller k j p n in
      get_or-set_other xs (start + j) (start + k) v (pos 0) ne ∙ h k less
]
  where
    smaller : (k j : ℕ) → k < j + 1 → (k ≡ j → ⊥) → k < j
    smaller k j p n = omega arith

-- places before the one written stay
pub put_before : (xs ys : List ℤ) (q start : ℕ) (v : ℤ) → start ≤ q → ((p : ℕ) → p < start → item xs p ≡ item ys p) → (p : ℕ) → p < start → item (slice_set xs q v) p ≡ item ys p
put_before xs ys q start v l h p s =
    let ne : p ≢ q = omega arith in
    get_or-set_other xs q p v (pos 0) ne ∙ h p s

-- a run of n places more, each as it should be
pub run_more : (old new : List ℤ) (k n : ℕ) (f : ℕ → ℤ) → ((p : ℕ) → p < k * n → item old p ≡ f p) → ((p : ℕ) → p < k * n → item new p ≡ item old p) → ((j : ℕ) → j < n → item new (k * n + j) ≡ f (k * n + j)) → (p : ℕ) → p < (k + 1) * n → item new p ≡ f p
run_more old new k n f done same here p h = elim (cases_lt p (k * n)) [
  | inl l ↦ same p l ∙ done p l
  | inr l ↦
      let e : k * n + (p - k * n) ≡ p = omega arith in
      let q : p - k * n < n = omega arith in
      subst (λ i. item new i ≡ f i) e (here (p - k * n) q)
]

-- the first j places of a run are put, and those before it stay
pub record RunPut (start j : ℕ) (f : ℕ → ℤ) (old new : List ℤ) : Type 0 where
  pub here : (k : ℕ) → k < j → item new (start + k) ≡ f k
  pub before : (p : ℕ) → p < start → item new p ≡ item old p

pub run_start : (start : ℕ) (f : ℕ → ℤ) (xs : List ℤ) → RunPut start 0 f xs xs
run_start start f xs = record { here = λ k h. absurd (omega arith); before = λ p h. refl }

pub run_put : (start j : ℕ) (f : ℕ → ℤ) (old new : List ℤ) (v : ℤ) → start + j < length new → v ≡ f j → RunPut start j f old new → RunPut start (j + 1) f old (slice_set new (start + j) v)
run_put start j f old new v l e r = record {
  here = put_here new start j f v l e r.here;
  before = put_before new old (start + j) start v (omega arith) r.before;
}
