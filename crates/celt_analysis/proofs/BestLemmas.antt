-- The best of candidates: there is one where there are candidates, and what it is in plain words.
use Rattle.std.proofs.Common.{◌≡◌, ℕ, zero, suc, ◌+◌, ◌-◌, ◌*◌, ◌<◌, ◌≤◌, sym, ap, subst, inl, inr, arith, ◌∙◌, true, false}
use Rattle.std.specs.Prelude.{◌⊎◌, ℤ}
use Rattle.std.proofs.lemmas.Bool.{cases_lt, cases_Bool, true≢false}
use Rattle.celt_analysis.specs.Pitch.{is_candidate, first_best, correlation_at, energy_at, correlations, energies, best_candidate, IsBestLag}
use Rattle.celt_analysis.specs.Search.{IsBest}
use Rattle.celt_analysis.proofs.SearchLemmas.{candidate-some, some-candidate, best-found, first_best-candidate, below_next}

pub record Best (c e : ℕ → ℕ) (n : ℕ) : Type 0 where
  pub place : ℕ
  pub is : IsBest c e n place

best-kept : (c e : ℕ → ℕ) (n r : ℕ) → IsBest c e n r → (is_candidate c e n ≡ true → c n * c n * e r ≤ c r * c r * e n) → IsBest c e (suc n) r
best-kept c e n r b h = record {
  within = omega (arith, b.within);
  candidate = b.candidate;
  greatest = λ i q g. upto i q g;
  first = b.first;
}
  where
    upto : (i : ℕ) → i < suc n → is_candidate c e i ≡ true → c i * c i * e r ≤ c r * c r * e i
    upto i q g =
        elim (cases_lt i n) [
          | inl p ↦ b.greatest i p g
          | inr p ↦ (let k : n ≡ i = omega arith in subst (λ j. c j * c j * e r ≤ c r * c r * e j) k (h (subst (λ j. is_candidate c e j ≡ true) (sym k) g)))
        ]

best-new : (c e : ℕ → ℕ) (n : ℕ) → is_candidate c e n ≡ true → ((i : ℕ) → i < n → is_candidate c e i ≡ true → c i * c i * e n < c n * c n * e i) → IsBest c e (suc n) n
best-new c e n t h = record {
  within = omega arith;
  candidate = t;
  greatest = λ i q g. upto i q g;
  first = h;
}
  where
    upto : (i : ℕ) → i < suc n → is_candidate c e i ≡ true → c i * c i * e n ≤ c n * c n * e i
    upto i q g =
        elim (cases_lt i n) [
          | inl p ↦ (let l = h i p g in omega arith)
          | inr p ↦ (let k : n ≡ i = omega arith in subst (λ j. c j * c j * e n ≤ c n * c n * e j) k (omega arith))
        ]

abbrev pub no-candidates : (c e : ℕ → ℕ) (n : ℕ) → Type 0
no-candidates c e n = (i : ℕ) → i < n → is_candidate c e i ≡ false

none-more : (c e : ℕ → ℕ) (n : ℕ) → is_candidate c e n ≡ false → no-candidates c e n → no-candidates c e (suc n)
none-more c e n f h = λ i p. at i p (cases_lt i n)
  where
    at : (i : ℕ) → i < suc n → (i < n) ⊎ (n ≤ i) → is_candidate c e i ≡ false
    at i p (inl q) = h i q
    at i p (inr q) = let k : n ≡ i = omega arith in subst (λ j. is_candidate c e j ≡ false) k f

best-more : (c e : ℕ → ℕ) (n r : ℕ) → IsBest c e n r → is_candidate c e n ≡ true → (c r * c r * e n < c n * c n * e r) ⊎ (c n * c n * e r ≤ c r * c r * e n) → Best c e (suc n)
best-more c e n r b t (inr l) = record {
  place = r;
  is = best-kept c e n r b (λ g. l);
}
best-more c e n r b t (inl l) = record {
  place = n;
  is = best-new c e n t (λ i p g. below_next (c i * c i) (c n * c n) (c r * c r) (e i) (e r) (e n) (b.greatest i p g) l (candidate-some c e i g).1);
}

pub best-or-none : (c e : ℕ → ℕ) (n : ℕ) → Best c e n ⊎ no-candidates c e n
best-or-none c e zero = inr (λ i p. absurd (omega arith))
best-or-none c e (suc n) = here (cases_Bool (is_candidate c e n)) (best-or-none c e n)
  where
    here : (is_candidate c e n ≡ true) ⊎ (is_candidate c e n ≡ false) → Best c e n ⊎ no-candidates c e n → Best c e (suc n) ⊎ no-candidates c e (suc n)
    here (inl t) (inl b) = inl (best-more c e n b.place b.is t (cases_lt (c b.place * c b.place * e n) (c n * c n * e b.place)))
    here (inl t) (inr h) = inl (record { place = n; is = best-new c e n t (λ i p g. absurd (true≢false (sym g ∙ h i p))) })
    here (inr f) (inl b) = inl (record { place = b.place; is = best-kept c e n b.place b.is (λ g. absurd (true≢false (sym g ∙ f))) })
    here (inr f) (inr h) = inr (none-more c e n f h)

pub first_best-is : (c e : ℕ → ℕ) (n : ℕ) → first_best c e n < n → IsBest c e n (first_best c e n)
first_best-is c e n p = here (best-or-none c e n)
  where
    here : Best c e n ⊎ no-candidates c e n → IsBest c e n (first_best c e n)
    here (inl b) = subst (IsBest c e n) (sym (best-found c e n b.place b.is)) b.is
    here (inr h) = absurd (true≢false (sym (first_best-candidate c e n p) ∙ h (first_best c e n) p))

pub first_best-none : (c e : ℕ → ℕ) (n : ℕ) → n ≤ first_best c e n → no-candidates c e n
first_best-none c e n p = here (best-or-none c e n)
  where
    here : Best c e n ⊎ no-candidates c e n → no-candidates c e n
    here (inl b) = absurd (omega (arith, best-found c e n b.place b.is, b.is.within))
    here (inr h) = h

-- ---- by lags

lag_of : (t : ℕ) → 15 ≤ t → 15 + (t - 15) ≡ t
lag_of t h = omega arith

-- what holds of each candidate holds of each lag
by_lag : (P : ℕ → Type 0) (m : ℕ) → ((i : ℕ) → i < m → P (15 + i)) → (t : ℕ) → 15 ≤ t → t < 15 + m → P t
by_lag P m h t p q = subst P (lag_of t p) (h (t - 15) (omega arith))

pub lag_is : (s : ℕ → ℤ) (f n i : ℕ) → IsBest (correlations s f n) (energies s f n) 1008 i → IsBestLag s f n (15 + i)
lag_is s f n i b =
    let z = candidate-some (correlations s f n) (energies s f n) i b.candidate in
    record {
      low = omega arith;
      high = omega (arith, b.within);
      correlated = z.0;
      heard = z.1;
      greatest = λ t p q x y. by_lag (λ u. 0 < correlation_at s f n u → 0 < energy_at s f n u → correlation_at s f n u * correlation_at s f n u * energy_at s f n (15 + i) ≤ correlation_at s f n (15 + i) * correlation_at s f n (15 + i) * energy_at s f n u) 1008 (λ j l g h. b.greatest j l (some-candidate (correlations s f n) (energies s f n) j g h)) t p (omega arith) x y;
      first = λ t p q x y. by_lag (λ u. 0 < correlation_at s f n u → 0 < energy_at s f n u → correlation_at s f n u * correlation_at s f n u * energy_at s f n (15 + i) < correlation_at s f n (15 + i) * correlation_at s f n (15 + i) * energy_at s f n u) i (λ j l g h. b.first j l (some-candidate (correlations s f n) (energies s f n) j g h)) t p (omega arith) x y;
    }

best_of_lag : (s : ℕ → ℤ) (f n i : ℕ) → IsBestLag s f n (15 + i) → IsBest (correlations s f n) (energies s f n) 1008 i
best_of_lag s f n i b = record {
  within = omega (arith, b.high);
  candidate = some-candidate (correlations s f n) (energies s f n) i b.correlated b.heard;
  greatest = λ j p g. let z = candidate-some (correlations s f n) (energies s f n) j g in b.greatest (15 + j) (omega arith) (omega arith) z.0 z.1;
  first = λ j p g. let z = candidate-some (correlations s f n) (energies s f n) j g in b.first (15 + j) (omega arith) (omega arith) z.0 z.1;
}

pub lag_found : (s : ℕ → ℤ) (f n : ℕ) → best_candidate s f n < 1008 → IsBestLag s f n (15 + best_candidate s f n)
unfolding best_candidate
lag_found s f n p = lag_is s f n (best_candidate s f n) (first_best-is (correlations s f n) (energies s f n) 1008 p)

pub lag_one : (s : ℕ → ℤ) (f n t : ℕ) → IsBestLag s f n t → 15 + best_candidate s f n ≡ t
unfolding best_candidate
lag_one s f n t b =
    let e : 15 + (t - 15) ≡ t = lag_of t b.low in
    ap (λ j. 15 + j) (best-found (correlations s f n) (energies s f n) 1008 (t - 15) (best_of_lag s f n (t - 15) (subst (IsBestLag s f n) (sym e) b))) ∙ e

pub lag_none : (s : ℕ → ℤ) (f n t : ℕ) → 1008 ≤ best_candidate s f n → 15 ≤ t → t ≤ 1022 → (correlation_at s f n t ≡ 0) ⊎ (energy_at s f n t ≡ 0)
unfolding best_candidate
lag_none s f n t h p q = by_lag (λ u. (correlation_at s f n u ≡ 0) ⊎ (energy_at s f n u ≡ 0)) 1008 (λ i l. at i (first_best-none (correlations s f n) (energies s f n) 1008 h i l)) t p (omega arith)
  where
    at : (i : ℕ) → is_candidate (correlations s f n) (energies s f n) i ≡ false → (correlation_at s f n (15 + i) ≡ 0) ⊎ (energy_at s f n (15 + i) ≡ 0)
    at i f2 = here (cases_lt 0 (correlation_at s f n (15 + i))) (cases_lt 0 (energy_at s f n (15 + i)))
      where
        here : (0 < correlation_at s f n (15 + i)) ⊎ (correlation_at s f n (15 + i) ≤ 0) → (0 < energy_at s f n (15 + i)) ⊎ (energy_at s f n (15 + i) ≤ 0) → (correlation_at s f n (15 + i) ≡ 0) ⊎ (energy_at s f n (15 + i) ≡ 0)
        here (inr x) y = inl (omega arith)
        here (inl x) (inr y) = inr (omega arith)
        here (inl x) (inl y) = absurd (true≢false (sym (some-candidate (correlations s f n) (energies s f n) i x y) ∙ f2))
