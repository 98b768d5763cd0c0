-- What the setting of a frame is in plain words, and which samples it depends on.
use Rattle.std.proofs.Common.{◌≡◌, ℕ, zero, suc, ◌+◌, ◌-◌, ◌*◌, ◌/◌, ◌<◌, ◌≤◌, sym, ap, subst, inl, inr, arith, ◌∙◌, Bool, true, false}
use Rattle.std.specs.Prelude.{◌⊎◌, ℤ, nat_lt, nat_le, if◌then◌else◌}
use Rattle.std.proofs.lemmas.Nat.{mul-le}
use Rattle.std.proofs.lemmas.Bool.{cases_lt, cases_Bool, cond-true, cond-false, le-leb, lt-leb, lt-ltb, le-ltb}
use Rattle.celt_base.specs.declared.state.Setting.{Setting}
use Rattle.celt_analysis.specs.Sums.{energy, squared}
use Rattle.celt_analysis.specs.Pitch.{positive_part, least, first_best, correlation_at, energy_at, correlations, energies, best_candidate, gain_steps, gain_for, gain_of, IsPitch, IsBestLag, IsGain}
use Rattle.celt_analysis.proofs.SumLemmas.{sum_from-same, correlation-moved}
use Rattle.celt_analysis.proofs.PitchLemmas.{gain_steps-more, gain_steps-found, gain_steps-none}
use Rattle.celt_analysis.proofs.SettingLemmas.{setting_same}
use Rattle.celt_analysis.proofs.BestLemmas.{lag_found, lag_one}

pub pitch_one : (s : ℕ → ℤ) (f n : ℕ) (a b : Setting) → IsPitch s f n a → IsPitch s f n b → a ≡ b
pitch_one s f n a b p q = setting_same a b (p.period ∙ sym q.period) (p.gain ∙ sym q.gain) (p.tapset ∙ sym q.tapset)

-- ---- the gain

gain_none : (s : ℕ → ℤ) (f n : ℕ) → 1008 ≤ best_candidate s f n → gain_of s f n ≡ 0
unfolding gain_of
gain_none s f n p = cond-false (nat_lt (best_candidate s f n) 1008) (gain_for (correlations s f n (best_candidate s f n)) (energies s f n (best_candidate s f n)) (energy s f n)) 0 (le-ltb (best_candidate s f n) 1008 p)

gain_some : (s : ℕ → ℤ) (f n : ℕ) → best_candidate s f n < 1008 → gain_of s f n ≡ gain_for (correlations s f n (best_candidate s f n)) (energies s f n (best_candidate s f n)) (energy s f n)
unfolding gain_of
gain_some s f n p = cond-true (nat_lt (best_candidate s f n) 1008) (gain_for (correlations s f n (best_candidate s f n)) (energies s f n (best_candidate s f n)) (energy s f n)) 0 (lt-ltb (best_candidate s f n) 1008 p)

-- k is the greatest number of steps up to n
record AreSteps (c e n k : ℕ) : Type 0 where
  pub most : k ≤ n
  pub within : 3072 * k * e ≤ 16384 * c
  pub greatest : k < n → 16384 * c < 3072 * suc k * e

are_steps : (c e n : ℕ) → AreSteps c e n (gain_steps c e n)
are_steps c e zero = subst (AreSteps c e 0) (sym (gain_steps-none c e)) (record {
  most = omega arith;
  within = omega arith;
  greatest = λ p. absurd (omega arith);
})
are_steps c e (suc n) = here (are_steps c e n) (cases_lt (16384 * c) (3072 * suc n * e))
  where
    more : 16384 * c < 3072 * suc n * e → (k : ℕ) → k < suc n → AreSteps c e n k → 16384 * c < 3072 * suc k * e
    more h k p s =
        elim (cases_lt k n) [
          | inl q ↦ s.greatest q
          | inr q ↦ (let j : n ≡ k = omega (arith, s.most) in subst (λ m. 16384 * c < 3072 * suc m * e) j h)
        ]

    here : AreSteps c e n (gain_steps c e n) → (16384 * c < 3072 * suc n * e) ⊎ (3072 * suc n * e ≤ 16384 * c) → AreSteps c e (suc n) (gain_steps c e (suc n))
    here s (inl h) =
        subst (AreSteps c e (suc n)) (sym (gain_steps-more c e n h)) (record {
          most = omega (arith, s.most);
          within = s.within;
          greatest = λ p. more h (gain_steps c e n) p s;
        })
    here s (inr h) = subst (AreSteps c e (suc n)) (sym (gain_steps-found c e n h)) (record {
      most = omega arith;
      within = h;
      greatest = λ p. absurd (omega arith);
    })

steps_same : (c e n j k : ℕ) → AreSteps c e n j → AreSteps c e n k → j ≡ k
steps_same c e n j k x y = here (cases_lt j k) (cases_lt k j)
  where
    apart : (a b : ℕ) → AreSteps c e n a → AreSteps c e n b → a < b → ⊥
    apart a b p q l =
        let m : suc a * e ≤ b * e = mul-le (suc a) e b e (omega arith) (omega arith) in
        absurd (omega (arith, p.greatest (omega (arith, q.most)), q.within))

    here : (j < k) ⊎ (k ≤ j) → (k < j) ⊎ (j ≤ k) → j ≡ k
    here (inl l) t = absurd (apart j k x y l)
    here (inr l) (inl t) = absurd (apart k j y x t)
    here (inr l) (inr t) = omega arith

gain_is : (c e o k : ℕ) → e * o ≤ 2 * (c * c) → 0 < k → AreSteps c e 8 k → IsGain c e o (3072 * k)
gain_is c e o k h p s = record {
  strong = h;
  steps = omega arith;
  least = omega arith;
  most = omega (arith, s.most);
  within = s.within;
  greatest = λ q. omega (arith, s.greatest (omega arith));
}

steps_in : (c e o gain : ℕ) → IsGain c e o gain → AreSteps c e 8 (gain / 3072)
steps_in c e o gain g =
    let k : 3072 * (gain / 3072) ≡ gain = omega (arith, g.steps) in
    record {
      most = omega (arith, g.most);
      within = subst (λ m. m * e ≤ 16384 * c) (sym k) g.within;
      greatest = λ p. (let l : 16384 * c < (3072 * (gain / 3072) + 3072) * e = subst (λ m. 16384 * c < (m + 3072) * e) (sym k) (g.greatest (omega arith)) in omega arith);
    }

gain_for-is : (c e o : ℕ) → 0 < gain_for c e o → IsGain c e o (gain_for c e o)
gain_for-is c e o p = here (cases_lt (2 * (c * c)) (e * o))
  where
    here : (2 * (c * c) < e * o) ⊎ (e * o ≤ 2 * (c * c)) → IsGain c e o (gain_for c e o)
    here (inl h) = absurd (omega (arith, cond-false (nat_le (e * o) (2 * (c * c))) (3072 * gain_steps c e 8) 0 (lt-leb (e * o) (2 * (c * c)) h)))
    here (inr h) =
        let v : gain_for c e o ≡ 3072 * gain_steps c e 8 = cond-true (nat_le (e * o) (2 * (c * c))) (3072 * gain_steps c e 8) 0 (le-leb (e * o) (2 * (c * c)) h) in
        subst (IsGain c e o) (sym v) (gain_is c e o (gain_steps c e 8) h (omega arith) (are_steps c e 8))

gain_for-one : (c e o gain : ℕ) → IsGain c e o gain → gain_for c e o ≡ gain
gain_for-one c e o gain g =
    let v : gain_for c e o ≡ 3072 * gain_steps c e 8 = cond-true (nat_le (e * o) (2 * (c * c))) (3072 * gain_steps c e 8) 0 (le-leb (e * o) (2 * (c * c)) g.strong) in
    let k : gain_steps c e 8 ≡ gain / 3072 = steps_same c e 8 (gain_steps c e 8) (gain / 3072) (are_steps c e 8) (steps_in c e o gain g) in
    omega (arith, g.steps)

-- ---- on and off

on_found : (s : ℕ → ℤ) (f n : ℕ) → 0 < gain_of s f n → best_candidate s f n < 1008
on_found s f n p =
    elim (cases_lt (best_candidate s f n) 1008) [
      | inl l ↦ l
      | inr l ↦ absurd (omega (arith, gain_none s f n l))
    ]

on_period : (s : ℕ → ℤ) (f n : ℕ) (a : Setting) → IsPitch s f n a → 0 < a.gain → a.period ≡ 15 + best_candidate s f n
on_period s f n a h p =
    let q : 0 < gain_of s f n = omega (arith, h.gain) in
    h.period ∙ cond-true (nat_lt 0 (gain_of s f n)) (15 + best_candidate s f n) 15 (lt-ltb 0 (gain_of s f n) q)

pub on_best : (s : ℕ → ℤ) (f n : ℕ) (a : Setting) → IsPitch s f n a → 0 < a.gain → IsBestLag s f n a.period
on_best s f n a h p = subst (IsBestLag s f n) (sym (on_period s f n a h p)) (lag_found s f n (on_found s f n (omega (arith, h.gain))))

pub on_gain : (s : ℕ → ℤ) (f n : ℕ) (a : Setting) → IsPitch s f n a → 0 < a.gain → IsGain (correlation_at s f n a.period) (energy_at s f n a.period) (energy s f n) a.gain
on_gain s f n a h p =
    let b : best_candidate s f n < 1008 = on_found s f n (omega (arith, h.gain)) in
    let g : a.gain ≡ gain_for (correlation_at s f n (15 + best_candidate s f n)) (energy_at s f n (15 + best_candidate s f n)) (energy s f n) = h.gain ∙ gain_some s f n b in
    let i : IsGain (correlation_at s f n (15 + best_candidate s f n)) (energy_at s f n (15 + best_candidate s f n)) (energy s f n) a.gain = subst (IsGain (correlation_at s f n (15 + best_candidate s f n)) (energy_at s f n (15 + best_candidate s f n)) (energy s f n)) (sym g) (gain_for-is (correlation_at s f n (15 + best_candidate s f n)) (energy_at s f n (15 + best_candidate s f n)) (energy s f n) (omega arith)) in
    subst (λ t. IsGain (correlation_at s f n t) (energy_at s f n t) (energy s f n) a.gain) (sym (on_period s f n a h p)) i

pub off_period : (s : ℕ → ℤ) (f n : ℕ) (a : Setting) → IsPitch s f n a → a.gain ≡ 0 → a.period ≡ 15
off_period s f n a h p = h.period ∙ cond-false (nat_lt 0 (gain_of s f n)) (15 + best_candidate s f n) 15 (le-ltb 0 (gain_of s f n) (omega (arith, h.gain)))

pub on_where : (s : ℕ → ℤ) (f n t gain : ℕ) (a : Setting) → IsPitch s f n a → IsBestLag s f n t → IsGain (correlation_at s f n t) (energy_at s f n t) (energy s f n) gain → a.gain ≡ gain
on_where s f n t gain a h b g =
    let e : 15 + best_candidate s f n ≡ t = lag_one s f n t b in
    let w : best_candidate s f n < 1008 = omega (arith, b.high) in
    h.gain ∙ gain_some s f n w ∙ gain_for-one (correlations s f n (best_candidate s f n)) (energies s f n (best_candidate s f n)) (energy s f n) gain (subst (λ u. IsGain (correlation_at s f n u) (energy_at s f n u) (energy s f n) gain) (sym e) g)

-- ---- the samples that a setting depends on

least-most : (t : ℕ → Bool) (n : ℕ) → least t n ≤ n
unfolding least
least-most t zero = omega arith
least-most t (suc n) = here (cases_Bool (t 0)) (least-most (λ i. t (suc i)) n)
  where
    here : (t 0 ≡ true) ⊎ (t 0 ≡ false) → least (λ i. t (suc i)) n ≤ n → least t (suc n) ≤ suc n
    here (inl y) h = subst (λ k. k ≤ suc n) (sym (cond-true (t 0) 0 (suc (least (λ i. t (suc i)) n)) y)) (omega arith)
    here (inr f) h = subst (λ k. k ≤ suc n) (sym (cond-false (t 0) 0 (suc (least (λ i. t (suc i)) n)) f)) (omega arith)

candidate-most : (s : ℕ → ℤ) (f n : ℕ) → best_candidate s f n ≤ 1008
unfolding best_candidate first_best
candidate-most s f n = least-most _ 1008

-- the same 1022 samples before the frame, and the same of the frame
record Alike (s u : ℕ → ℤ) (f g n : ℕ) : Type 0 where
  pub first : 1022 ≤ f
  pub second : 1022 ≤ g
  pub same : (i : ℕ) → i < 1022 + n → s (f - 1022 + i) ≡ u (g - 1022 + i)

alike_back : (s u : ℕ → ℤ) (f g n : ℕ) → Alike s u f g n → Alike u s g f n
alike_back s u f g n h = record {
  first = h.second;
  second = h.first;
  same = λ i p. sym (h.same i p);
}

alike_at : (s u : ℕ → ℤ) (f g n i a b : ℕ) → Alike s u f g n → i < 1022 + n → a ≡ f - 1022 + i → b ≡ g - 1022 + i → s a ≡ u b
alike_at s u f g n i a b h p q r = ap s q ∙ h.same i p ∙ ap u (sym r)

frame_alike : (s u : ℕ → ℤ) (f g n : ℕ) → Alike s u f g n → (i : ℕ) → i < n → s (f + i) ≡ u (g + i)
frame_alike s u f g n h i p = alike_at s u f g n (1022 + i) (f + i) (g + i) h (omega arith) (omega (arith, h.first)) (omega (arith, h.second))

before_alike : (s u : ℕ → ℤ) (f g n t : ℕ) → Alike s u f g n → t ≤ 1022 → (i : ℕ) → i < n → s (f - t + i) ≡ u (g - t + i)
before_alike s u f g n t h l i p = alike_at s u f g n (1022 - t + i) (f - t + i) (g - t + i) h (omega arith) (omega (arith, h.first)) (omega (arith, h.second))

correlation_alike : (s u : ℕ → ℤ) (f g n t : ℕ) → Alike s u f g n → t ≤ 1022 → correlation_at s f n t ≡ correlation_at u g n t
correlation_alike s u f g n t h l = ap positive_part (correlation-moved s s u u f (f - t) g (g - t) n (frame_alike s u f g n h) (before_alike s u f g n t h l))

energy_alike : (s u : ℕ → ℤ) (f g n t : ℕ) → Alike s u f g n → t ≤ 1022 → energy_at s f n t ≡ energy_at u g n t
energy_alike s u f g n t h l = sum_from-same (λ i. squared (s i)) (λ i. squared (u i)) (f - t) (g - t) n (λ i p. ap squared (before_alike s u f g n t h l i p))

own_alike : (s u : ℕ → ℤ) (f g n : ℕ) → Alike s u f g n → energy s f n ≡ energy u g n
own_alike s u f g n h = sum_from-same (λ i. squared (s i)) (λ i. squared (u i)) f g n (λ i p. ap squared (frame_alike s u f g n h i p))

-- what holds of some numbers holds of equal ones
carried : (P : ℕ → ℕ → ℕ → ℕ → Type 0) (a b c d x y z w : ℕ) → a ≡ x → b ≡ y → c ≡ z → d ≡ w → P a b c d → P x y z w
carried P a b c d x y z w p q r t h = subst (λ k. P x y z k) t (subst (λ k. P x y k d) r (subst (λ k. P x k c d) q (subst (λ k. P k b c d) p h)))

best_alike : (s u : ℕ → ℤ) (f g n t : ℕ) → Alike s u f g n → IsBestLag s f n t → IsBestLag u g n t
best_alike s u f g n t h b = record {
  low = b.low;
  high = b.high;
  correlated = subst (λ k. 0 < k) (correlation_alike s u f g n t h b.high) b.correlated;
  heard = subst (λ k. 0 < k) (energy_alike s u f g n t h b.high) b.heard;
  greatest = λ v p q x y.
      carried (λ c e c2 e2. c * c * e2 ≤ c2 * c2 * e) (correlation_at s f n v) (energy_at s f n v) (correlation_at s f n t) (energy_at s f n t) (correlation_at u g n v) (energy_at u g n v) (correlation_at u g n t) (energy_at u g n t) (correlation_alike s u f g n v h q) (energy_alike s u f g n v h q) (correlation_alike s u f g n t h b.high) (energy_alike s u f g n t h b.high)
      (b.greatest v p q (subst (λ k. 0 < k) (sym (correlation_alike s u f g n v h q)) x) (subst (λ k. 0 < k) (sym (energy_alike s u f g n v h q)) y));
  first = λ v p q x y.
      let l : v ≤ 1022 = omega (arith, b.high) in
      carried (λ c e c2 e2. c * c * e2 < c2 * c2 * e) (correlation_at s f n v) (energy_at s f n v) (correlation_at s f n t) (energy_at s f n t) (correlation_at u g n v) (energy_at u g n v) (correlation_at u g n t) (energy_at u g n t) (correlation_alike s u f g n v h l) (energy_alike s u f g n v h l) (correlation_alike s u f g n t h b.high) (energy_alike s u f g n t h b.high)
      (b.first v p q (subst (λ k. 0 < k) (sym (correlation_alike s u f g n v h l)) x) (subst (λ k. 0 < k) (sym (energy_alike s u f g n v h l)) y));
}

found_alike : (s u : ℕ → ℤ) (f g n : ℕ) → Alike s u f g n → best_candidate s f n < 1008 → best_candidate u g n ≡ best_candidate s f n
found_alike s u f g n h p = omega (arith, lag_one u g n (15 + best_candidate s f n) (best_alike s u f g n (15 + best_candidate s f n) h (lag_found s f n p)))

candidate_alike : (s u : ℕ → ℤ) (f g n : ℕ) → Alike s u f g n → best_candidate s f n ≡ best_candidate u g n
candidate_alike s u f g n h = here (cases_lt (best_candidate s f n) 1008) (cases_lt (best_candidate u g n) 1008)
  where
    here : (best_candidate s f n < 1008) ⊎ (1008 ≤ best_candidate s f n) → (best_candidate u g n < 1008) ⊎ (1008 ≤ best_candidate u g n) → best_candidate s f n ≡ best_candidate u g n
    here (inl p) t = sym (found_alike s u f g n h p)
    here (inr p) (inl q) = found_alike u s g f n (alike_back s u f g n h) q
    here (inr p) (inr q) = omega (arith, candidate-most s f n, candidate-most u g n)

gain_alike : (s u : ℕ → ℤ) (f g n : ℕ) → Alike s u f g n → gain_of s f n ≡ gain_of u g n
gain_alike s u f g n h = here (cases_lt (best_candidate s f n) 1008)
  where
    e : best_candidate s f n ≡ best_candidate u g n
    e = candidate_alike s u f g n h

    here : (best_candidate s f n < 1008) ⊎ (1008 ≤ best_candidate s f n) → gain_of s f n ≡ gain_of u g n
    here (inl p) =
        let i : ℕ = best_candidate s f n in
        gain_some s f n p
        ∙ ap (λ c. gain_for c (energies s f n i) (energy s f n)) (correlation_alike s u f g n (15 + i) h (omega arith))
        ∙ ap (λ k. gain_for (correlations u g n i) k (energy s f n)) (energy_alike s u f g n (15 + i) h (omega arith))
        ∙ ap (gain_for (correlations u g n i) (energies u g n i)) (own_alike s u f g n h)
        ∙ ap (λ j. gain_for (correlations u g n j) (energies u g n j) (energy u g n)) e
        ∙ sym (gain_some u g n (omega (arith, e)))
    here (inr p) = gain_none s f n p ∙ sym (gain_none u g n (omega (arith, e)))

pub pitch_alike : (s u : ℕ → ℤ) (f g n : ℕ) (a : Setting) → 1022 ≤ f → 1022 ≤ g → ((i : ℕ) → i < 1022 + n → s (f - 1022 + i) ≡ u (g - 1022 + i)) → IsPitch s f n a → IsPitch u g n a
pitch_alike s u f g n a p q h t =
    let w : Alike s u f g n = record { first = p; second = q; same = h } in
    record {
      period = t.period ∙ ap (λ k. if nat_lt 0 k then 15 + best_candidate s f n else 15) (gain_alike s u f g n w) ∙ ap (λ j. if nat_lt 0 (gain_of u g n) then 15 + j else 15) (candidate_alike s u f g n w);
      gain = t.gain ∙ gain_alike s u f g n w;
      tapset = t.tapset;
    }

-- in a list of just those samples
pub pitch_same : (s u : ℕ → ℤ) (n : ℕ) (a : Setting) → ((i : ℕ) → i < 1022 + n → s i ≡ u i) → IsPitch s 1022 n a → IsPitch u 1022 n a
pitch_same s u n a h = pitch_alike s u 1022 1022 n a (omega arith) (omega arith) (λ i p. let e : 1022 - 1022 + i ≡ i = omega arith in subst (λ k. s k ≡ u k) (sym e) (h i p))
