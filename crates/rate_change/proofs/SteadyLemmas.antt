-- A steady input: each sample of the window is the same.
use Rattle.std.proofs.Common.{◌≡◌, ℕ, zero, suc, ◌*◌, ◌≤◌, sym, refl, ap, ◌∙◌, arith}
use Rattle.std.specs.Prelude.{ℤ, pos, negsuc, ◌+ℤ◌, ◌-ℤ◌, ◌*ℤ◌, ◌≤ℤ◌, ◌<ℤ◌, FitsSigned}
use Rattle.std.specs.Int.{w16, int_max, int_div_euclid}
use Rattle.std.proofs.lemmas.Int.{ints}
use Rattle.std.proofs.Math.IntN.{pos-*ℤ-negsuc, zero-*ℤ}
use Rattle.std.proofs.Math.Nat.{div-eq_of_lt-le}
use Rattle.fixed_math.proofs.IntLemmas.{+ℤ-*ℤ, *ℤ_assoc}
use Rattle.rate_change.specs.Resampling.{first_sum, sum_around, between, weight, saturated, nearest}

scaled_sum : (g : ℤ → ℤ) (v : ℤ) (n : ℕ) → first_sum (λ j. g j *ℤ v) n ≡ first_sum g n *ℤ v
unfolding first_sum
scaled_sum g v zero = sym (zero-*ℤ v)
scaled_sum g v (suc n) = ap (λ z. z +ℤ g (pos n -ℤ pos 15) *ℤ v) (scaled_sum g v n) ∙ sym (+ℤ-*ℤ (first_sum g n) (g (pos n -ℤ pos 15)) v)

-- the quotient that is rounded down
quotient_is : (a : ℤ) (m : ℕ) (q : ℤ) → (pos m *ℤ q) ≤ℤ a → a <ℤ (pos m *ℤ q +ℤ pos m) → int_div_euclid a (pos m) ≡ q
quotient_is (pos a) m (pos q) l h = ap pos (div-eq_of_lt-le m (omega (arith, ints)) (omega (arith, ints)))
quotient_is (pos a) m (negsuc q) l h = absurd (omega (arith, ints, pos-*ℤ-negsuc m q))
quotient_is (negsuc a) m (pos q) l h = absurd (omega (arith, ints))
quotient_is (negsuc a) m (negsuc q) l h = ap negsuc (div-eq_of_lt-le m (omega (arith, ints, pos-*ℤ-negsuc m q)) (omega (arith, ints, pos-*ℤ-negsuc m q)))

nearest_level : (n : ℕ) (v : ℤ) → 1 ≤ n → nearest (pos n *ℤ v) (pos n) ≡ v
nearest_level n v h =
    let m : ℕ = 2 * n in
    let e : pos 2 *ℤ pos n ≡ pos m = double n in
    let t : pos m *ℤ v ≡ pos 2 *ℤ (pos n *ℤ v) = ap (λ z. z *ℤ v) (sym e) ∙ *ℤ_assoc (pos 2) (pos n) v in
    ap (int_div_euclid (pos 2 *ℤ (pos n *ℤ v) +ℤ pos n)) e
    ∙ quotient_is (pos 2 *ℤ (pos n *ℤ v) +ℤ pos n) m v (omega (arith, ints)) (omega (arith, ints))
  where
    double : (n : ℕ) → pos 2 *ℤ pos n ≡ pos (2 * n)
    double n = omega (arith, ints)

nearest_of : (s v : ℤ) → pos 1 ≤ℤ s → nearest (s *ℤ v) (int_max s (pos 1)) ≡ v
nearest_of (pos n) v h = ap (nearest (pos n *ℤ v)) (greater n (omega (arith, ints))) ∙ nearest_level n v (omega (arith, ints))
  where
    greater : (n : ℕ) → 1 ≤ n → int_max (pos n) (pos 1) ≡ pos n
    greater n h = grind (arith, ints)
nearest_of (negsuc n) v h = absurd (omega (arith, ints))

inside : (v : ℤ) → FitsSigned w16 v → saturated v ≡ v
inside (pos n) f = grind (arith, ints, f.sfits)
inside (negsuc n) f = grind (arith, ints, f.sfits)

pub steady : (up f : ℕ) (level : ℤ) → pos 1 ≤ℤ sum_around (weight up f) → FitsSigned w16 level → between up f (λ j. level) ≡ level
unfolding between
steady up zero level h f = refl
steady up (suc f) level h fits =
    ap (λ z. saturated (nearest z (int_max (sum_around (weight up (suc f))) (pos 1)))) (scaled_sum (weight up (suc f)) level 32)
    ∙ ap saturated (nearest_of (sum_around (weight up (suc f))) level h)
    ∙ inside level fits
