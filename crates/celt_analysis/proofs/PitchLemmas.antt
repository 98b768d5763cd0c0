-- From what the search finds to the setting.
use Rattle.std.proofs.Common.{◌≡◌, ℕ, suc, ◌+◌, ◌*◌, ◌^◌, ◌<◌, ◌≤◌, inl, inr, refl, sym, ap, subst, arith, ◌∙◌, List, length}
use Rattle.std.specs.Prelude.{◌⊎◌, ℤ, pos, ◌+ℤ◌, unsigned_abs, All, nat_eq, nat_lt, nat_le}
use Rattle.std.specs.Int.{int_shr}
use Rattle.std.proofs.Math.Path.{fun_ext}
use Rattle.std.proofs.lemmas.List.{get_or_default}
use Rattle.std.proofs.lemmas.Nat.{mul-le}
use Rattle.std.proofs.lemmas.Bool.{cases_lt, cond-true, cond-false, lt-ltb, le-ltb, le-leb, lt-leb, eq-eqb, ne_eqb}
use Rattle.fixed_math.specs.Items.{item}
use Rattle.celt_base.specs.declared.state.Setting.{Setting}
use Rattle.celt_analysis.specs.Pitch.{correlations, energies, best_candidate, gain_steps, gain_for, gain_of, downmix, IsPitch}
use Rattle.celt_analysis.specs.Search.{IsBestFrom}
use Rattle.celt_analysis.specs.Sums.{squared, energy}
use Rattle.celt_analysis.proofs.SumLemmas.{sum_from-le, sum_from-same, items_below}
use Rattle.celt_analysis.proofs.SearchLemmas.{reached, missed, candidate-some, best-found, first_best-candidate}

pub below-wide : (d : List ℤ) → All (λ x. unsigned_abs x ≤ 2 ^ 15) d → All (λ x. unsigned_abs x < 2 ^ 16) d
below-wide d h = λ i x p. omega (arith, h i x p)

pub energy-small : (d : List ℤ) (a n : ℕ) → n ≤ 960 → All (λ x. unsigned_abs x ≤ 2 ^ 15) d → energy (item d) a n ≤ 2 ^ 40
energy-small d a n c h =
    let b : energy (item d) a n ≤ n * 2 ^ 30 = sum_from-le (λ i. squared (item d i)) (2 ^ 30) a n (λ i. small i) in
    omega arith
  where
    small : (i : ℕ) → squared (item d i) ≤ 2 ^ 30
    small i =
        let s : unsigned_abs (item d i) < 2 ^ 15 + 1 = items_below d (2 ^ 15 + 1) i (omega arith) (λ j x p. omega (arith, h j x p)) in
        mul-le (unsigned_abs (item d i)) (unsigned_abs (item d i)) (2 ^ 15) (2 ^ 15) (omega arith) (omega arith)

pub gain_steps-more : (c e k : ℕ) → 16384 * c < 3072 * suc k * e → gain_steps c e (suc k) ≡ gain_steps c e k
unfolding gain_steps
gain_steps-more c e k h = cond-false (nat_le (3072 * suc k * e) (16384 * c)) (suc k) (gain_steps c e k) (lt-leb (3072 * suc k * e) (16384 * c) h)

pub gain_steps-found : (c e k : ℕ) → 3072 * suc k * e ≤ 16384 * c → gain_steps c e (suc k) ≡ suc k
unfolding gain_steps
gain_steps-found c e k h = cond-true (nat_le (3072 * suc k * e) (16384 * c)) (suc k) (gain_steps c e k) (le-leb (3072 * suc k * e) (16384 * c) h)

pub gain_steps-none : (c e : ℕ) → gain_steps c e 0 ≡ 0
unfolding gain_steps
gain_steps-none c e = refl

-- where nothing is found there is no gain
pub gain-none : (s : ℕ → ℤ) (f n r : ℕ) → r ≡ 1008 → IsBestFrom (correlations s f n) (energies s f n) (energy s f n) 2 1008 r → gain_of s f n ≡ 0
unfolding gain_of best_candidate
gain-none s f n r e b = here (cases_lt (best_candidate s f n) 1008)
  where
    here : (best_candidate s f n < 1008) ⊎ (1008 ≤ best_candidate s f n) → gain_of s f n ≡ 0
    here (inr p) = cond-false (nat_lt (best_candidate s f n) 1008) (gain_for (correlations s f n (best_candidate s f n)) (energies s f n (best_candidate s f n)) (energy s f n)) 0 (le-ltb (best_candidate s f n) 1008 p)
    here (inl p) =
        let i : ℕ = best_candidate s f n in
        let q = candidate-some (correlations s f n) (energies s f n) i (first_best-candidate (correlations s f n) (energies s f n) 1008 p) in
        let m = missed 1 (energy s f n) 2 (correlations s f n i) (energies s f n i) q.0 q.1 (b.none e i p) in
        cond-true (nat_lt (best_candidate s f n) 1008) (gain_for (correlations s f n i) (energies s f n i) (energy s f n)) 0 (lt-ltb (best_candidate s f n) 1008 p)
        ∙ cond-false (nat_le (energies s f n i * energy s f n) (2 * (correlations s f n i * correlations s f n i))) (3072 * gain_steps (correlations s f n i) (energies s f n i) 8) 0 (lt-leb (energies s f n i * energy s f n) (2 * (correlations s f n i * correlations s f n i)) (omega arith))

pub gain-found : (s : ℕ → ℤ) (f n r : ℕ) → r < 1008 → IsBestFrom (correlations s f n) (energies s f n) (energy s f n) 2 1008 r → (best_candidate s f n ≡ r) × (gain_of s f n ≡ 3072 * gain_steps (correlations s f n r) (energies s f n r) 8)
unfolding gain_of best_candidate
gain-found s f n r p b =
    let e : best_candidate s f n ≡ r = best-found (correlations s f n) (energies s f n) 1008 r (b.best p) in
    let t = reached 1 (energy s f n) 2 (correlations s f n r) (energies s f n r) (b.met p) in (
      e,
      cond-true (nat_lt (best_candidate s f n) 1008) (gain_for (correlations s f n (best_candidate s f n)) (energies s f n (best_candidate s f n)) (energy s f n)) 0 (lt-ltb (best_candidate s f n) 1008 (omega arith))
          ∙ ap (λ i. gain_for (correlations s f n i) (energies s f n i) (energy s f n)) e
          ∙ cond-true (nat_le (energies s f n r * energy s f n) (2 * (correlations s f n r * correlations s f n r))) (3072 * gain_steps (correlations s f n r) (energies s f n r) 8) 0 (le-leb (energies s f n r * energy s f n) (2 * (correlations s f n r * correlations s f n r)) (omega (arith, t.above))),
    )

pub best-carried : (s : ℕ → ℤ) (m n o r : ℕ) → m ≡ n → o ≡ energy s 1022 n → IsBestFrom (correlations s 1022 m) (energies s 1022 m) o 2 1008 r → IsBestFrom (correlations s 1022 n) (energies s 1022 n) (energy s 1022 n) 2 1008 r
best-carried s m n o r e g b = subst (λ k. IsBestFrom (correlations s 1022 k) (energies s 1022 k) (energy s 1022 n) 2 1008 r) e (subst (λ q. IsBestFrom (correlations s 1022 m) (energies s 1022 m) q 2 1008 r) g b)

pub pitch-off : (s : ℕ → ℤ) (f n : ℕ) (r : Setting) → gain_of s f n ≡ 0 → r.period ≡ 15 → r.gain ≡ 0 → r.tapset ≡ 0 → IsPitch s f n r
pitch-off s f n r g p q t = record {
  period = p ∙ sym (cond-false (nat_lt 0 (gain_of s f n)) (15 + best_candidate s f n) 15 (le-ltb 0 (gain_of s f n) (omega arith)));
  gain = q ∙ sym g;
  tapset = t;
}

pub pitch-on : (s : ℕ → ℤ) (f n i k : ℕ) (r : Setting) → best_candidate s f n ≡ i → gain_of s f n ≡ 3072 * k → 0 < k → r.period ≡ 15 + i → r.gain ≡ 3072 * k → r.tapset ≡ 0 → IsPitch s f n r
pitch-on s f n i k r e g l p q t = record {
  period = p ∙ ap (λ j. 15 + j) (sym e) ∙ sym (cond-true (nat_lt 0 (gain_of s f n)) (15 + best_candidate s f n) 15 (lt-ltb 0 (gain_of s f n) (omega arith)));
  gain = q ∙ sym g;
  tapset = t;
}

-- ---- the same numbers in 64 bits

pub wide-within : (w d : List ℤ) → ((i : ℕ) → i < length d → item w i ≡ item d i) → ((i : ℕ) → length d ≤ i → item w i ≡ pos 0) → All (λ x. unsigned_abs x ≤ 2 ^ 15) d → All (λ x. unsigned_abs x ≤ 2 ^ 15) w
wide-within w d h z b = λ i x p. subst (λ y. unsigned_abs y ≤ 2 ^ 15) (sym (get_or_default w i x (pos 0) p)) (at i (cases_lt i (length d)))
  where
    at : (i : ℕ) → (i < length d) ⊎ (length d ≤ i) → unsigned_abs (item w i) ≤ 2 ^ 15
    at i (inl q) = subst (λ y. unsigned_abs y ≤ 2 ^ 15) (sym (h i q)) (b i (pos 0) q)
    at i (inr q) = subst (λ y. unsigned_abs y ≤ 2 ^ 15) (sym (z i q)) (omega arith)

pub wide-energy : (w d : List ℤ) (a n : ℕ) → a + n ≤ length d → ((i : ℕ) → i < length d → item w i ≡ item d i) → energy (item w) a n ≡ energy (item d) a n
wide-energy w d a n l h = sum_from-same (λ i. squared (item w i)) (λ i. squared (item d i)) a a n (λ i p. ap squared (h (a + i) (omega arith)))

-- ---- the window

pub downmix-one : (channels : ℕ) (w : ℕ → ℤ) → channels ≡ 1 → downmix channels w ≡ (λ i. w (123 + i))
unfolding downmix
downmix-one channels w e = fun_ext (λ i. cond-true (nat_eq channels 1) (w (123 + i)) (int_shr (w (2 * (123 + i)) +ℤ w (2 * (123 + i) + 1)) 1) (eq-eqb channels 1 e))

pub downmix-two : (channels : ℕ) (w : ℕ → ℤ) → channels ≡ 2 → downmix channels w ≡ (λ i. int_shr (w (2 * (123 + i)) +ℤ w (2 * (123 + i) + 1)) 1)
unfolding downmix
downmix-two channels w e = fun_ext (λ i. cond-false (nat_eq channels 1) (w (123 + i)) (int_shr (w (2 * (123 + i)) +ℤ w (2 * (123 + i) + 1)) 1) (ne_eqb channels 1 (λ q. absurd (omega arith))))
