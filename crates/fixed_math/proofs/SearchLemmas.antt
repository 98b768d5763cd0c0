-- What is found passes, and what lies beyond does not.
use Rattle.std.proofs.Common.{◌≡◌, ℕ, zero, suc, ◌+◌, ◌<◌, ◌≤◌, refl, ap, subst, inl, inr, arith, ◌∙◌, Bool, true, false}
use Rattle.std.specs.Prelude.{if◌then◌else◌}
use Rattle.std.proofs.lemmas.Bool.{cases_lt, cases_eq, cases_Bool, cond-true, cond-false}
use Rattle.fixed_math.specs.Search.{greatest, first_from, least}

-- ---- the greatest

greatest_here : (t : ℕ → Bool) (n : ℕ) → t n ≡ true → greatest t (suc n) ≡ n
unfolding greatest
greatest_here t n h = cond-true (t n) n (greatest t n) h

greatest_below : (t : ℕ → Bool) (n : ℕ) → t n ≡ false → greatest t (suc n) ≡ greatest t n
unfolding greatest
greatest_below t n h = cond-false (t n) n (greatest t n) h

pub greatest-found : (t : ℕ → Bool) (n k : ℕ) → k < n → t k ≡ true → t (greatest t n) ≡ true
greatest-found t zero k h p = absurd (omega arith)
greatest-found t (suc n) k h p =
    elim (cases_Bool (t n)) [
      | inl e ↦ ap t (greatest_here t n e) ∙ e
      | inr e ↦ ap t (greatest_below t n e) ∙ greatest-found t n k (not_last k n e h p) p
    ]
  where
    not_last : (k n : ℕ) → t n ≡ false → k < suc n → t k ≡ true → k < n
    not_last k n e h p =
        elim (cases_lt k n) [
          | inl q ↦ q
          | inr q ↦
              let d : k ≡ n = omega arith in
              absurd (cc (ap t d))
        ]

same_test : (t : ℕ → Bool) (k n : ℕ) → n ≤ k → k < suc n → t n ≡ false → t k ≡ false
same_test t k n q h e =
    let d : k ≡ n = omega arith in
    ap t d ∙ e

pub greatest-above : (t : ℕ → Bool) (n k : ℕ) → greatest t n < k → k < n → t k ≡ false
greatest-above t zero k g h = absurd (omega arith)
greatest-above t (suc n) k g h =
    elim (cases_Bool (t n)) [
      | inl e ↦
          let d : greatest t (suc n) ≡ n = greatest_here t n e in
          absurd (omega arith)
      | inr e ↦
          let d : greatest t (suc n) ≡ greatest t n = greatest_below t n e in
          elim (cases_lt k n) [
            | inl q ↦ greatest-above t n k (omega arith) q
            | inr q ↦ same_test t k n q h e
          ]
    ]

-- ---- the first

first_case : (test : ℕ → Bool) (n t k : ℕ) (b : Bool) → test t ≡ b → t ≤ k → k < t + suc n → test k ≡ true → (suc t ≤ k → test (first_from test n (suc t)) ≡ true)
    → test (if b then t else first_from test n (suc t)) ≡ true
first_case test n t k true e h l p r = e
first_case test n t k false e h l p r = elim (cases_lt t k) [
  | inl q ↦ r q
  | inr q ↦ let d : t ≡ k = omega arith in absurd (cc (ap test d))
]

pub first_passes : (test : ℕ → Bool) (n t k : ℕ) → t ≤ k → k < t + n → test k ≡ true → test (first_from test n t) ≡ true
unfolding first_from
first_passes test zero t k h l p = absurd (omega arith)
first_passes test (suc n) t k h l p = first_case test n t k (test t) refl h l p (λ g. first_passes test n (suc t) k g (omega arith) p)

least_case : (test : ℕ → Bool) (n t k : ℕ) (b : Bool) → test t ≡ b → t ≤ k → k < (if b then t else first_from test n (suc t))
    → (suc t ≤ k → k < first_from test n (suc t) → test k ≡ false) → test k ≡ false
least_case test n t k true e h l r = absurd (omega arith)
least_case test n t k false e h l r = elim (cases_eq t k) [
  | inl s ↦ subst (λ i. test i ≡ false) s e
  | inr d ↦ r (above t k h d) l
]
  where
    above : (t k : ℕ) → t ≤ k → (t ≡ k → ⊥) → suc t ≤ k
    above t k h d = omega arith

pub first_least : (test : ℕ → Bool) (n t k : ℕ) → t ≤ k → k < first_from test n t → test k ≡ false
unfolding first_from
first_least test zero t k h l = absurd (omega arith)
first_least test (suc n) t k h l = least_case test n t k (test t) refl h l (λ g m. first_least test n (suc t) k g m)

first-found : (test : ℕ → Bool) (n t j : ℕ) → t ≤ j → j < t + n → test j ≡ true → ((i : ℕ) → t ≤ i → i < j → test i ≡ false) → first_from test n t ≡ j
unfolding first_from
first-found test zero t j h l p b = absurd (omega arith)
first-found test (suc n) t j h l p b = elim (cases_eq t j) [
  | inl s ↦ cond-true (test t) t (first_from test n (suc t)) (ap test s ∙ p) ∙ s
  | inr d ↦
      cond-false (test t) t (first_from test n (suc t)) (b t (omega arith) (omega (arith, d)))
      ∙ first-found test n (suc t) j (omega (arith, d)) (omega arith) p (λ i q r. b i (omega arith) r)
]

pub least-found : (test : ℕ → Bool) (n j : ℕ) → j < n → test j ≡ true → ((i : ℕ) → i < j → test i ≡ false) → least test n ≡ j
least-found test n j h p b = first-found test n 0 j (omega arith) (omega arith) p (λ i q r. b i r)
