-- Energies of blocks.
use Rattle.std.proofs.Common.{◌≡◌, ℕ, suc, ◌+◌, ◌*◌, ◌^◌, ◌<◌, ◌≤◌, Bool, true, false, ◌||◌, nat_lt, refl, sym, subst, arith, ap, ◌∙◌, List}
use Rattle.std.proofs.lemmas.Bool.Decides.{nat_tests}
use Rattle.std.specs.Prelude.{◌&&◌, ℤ, ◌*ℤ◌, unsigned_abs, FitsSigned}
use Rattle.std.specs.Int.{int_shr, w32, w64}
use Rattle.std.proofs.lemmas.Int.{fits_signed_from_abs, unsigned_abs-mul}
use Rattle.std.proofs.lemmas.Nat.{mul-le}
use Rattle.fixed_math.proofs.RoundingLemmas.{shr_scaled}
use Rattle.celt_analysis.specs.Sums.{sum_from, squared, energy}
use Rattle.celt_analysis.specs.Transients.{block_energy, energies_in, is_transient, rises_within}

-- ---- the code's steps for the square of a value in whole samples

pub record SquareSteps (v : ℤ) : Type 0 where
  pub v_fits : FitsSigned w64 v
  pub whole : FitsSigned w64 (int_shr v 12)
  pub narrow : FitsSigned w32 (int_shr v 12)
  pub square : FitsSigned w64 (int_shr v 12 *ℤ int_shr v 12)
  pub size : unsigned_abs (int_shr v 12 *ℤ int_shr v 12) ≤ 2 ^ 34

pub square_steps : (v : ℤ) → unsigned_abs v < 2 ^ 29 → SquareSteps v
square_steps v h =
    let w : unsigned_abs (int_shr v 12) ≤ 2 ^ 17 = shr_scaled v 12 (2 ^ 17) (omega arith) in
    let s : unsigned_abs (int_shr v 12 *ℤ int_shr v 12) ≤ 2 ^ 34 = subst (λ k. k ≤ 2 ^ 34) (sym (unsigned_abs-mul (int_shr v 12) (int_shr v 12))) (mul-le (unsigned_abs (int_shr v 12)) (unsigned_abs (int_shr v 12)) (2 ^ 17) (2 ^ 17) w w) in
    record {
      v_fits = fits_signed_from_abs w64 _ (omega arith);
      whole = fits_signed_from_abs w64 _ (omega arith);
      narrow = fits_signed_from_abs w32 _ (omega arith);
      square = fits_signed_from_abs w64 _ (omega arith);
      size = s;
    }

-- ---- sums

pub energy_none : (f : ℕ → ℤ) (a : ℕ) → 0 ≡ energy f a 0
unfolding sum_from
energy_none f a = refl

pub energy_next : (f : ℕ → ℤ) (a n sum square : ℕ) → sum ≡ energy f a n → square ≡ squared (f (a + n)) → sum + square ≡ energy f a (n + 1)
unfolding sum_from
energy_next f a n sum square e s = ap (λ k. k + square) e ∙ ap (λ k. energy f a n + k) s ∙ ap (λ k. energy f a k) (next n)
  where
    next : (n : ℕ) → suc n ≡ n + 1
    next n = omega arith

pub found_next : (e : ℕ → ℕ) (n : ℕ) (found : Bool) (before next : ℕ) (after : Bool) → found ≡ rises_within e n → before ≡ e n → next ≡ e (n + 1) → after ≡ (found || nat_lt (16 * before + 7680) next) → after ≡ rises_within e (n + 1)
unfolding rises_within
found_next e n found before next after hf hb hn ha =
    ha ∙ ap (λ b. b || nat_lt (16 * before + 7680) next) hf ∙ ap (λ k. rises_within e n || nat_lt (16 * k + 7680) next) hb ∙ ap (λ k. rises_within e n || nat_lt (16 * e n + 7680) k) (hn ∙ ap e (one_on n)) ∙ ap (rises_within e) (sym (one_on n))
  where
    one_on : (n : ℕ) → n + 1 ≡ suc n
    one_on n = omega arith

-- one block alone is no transient; more are where the energy rises
pub transient_none : (lm : ℕ) (e : ℕ → ℕ) → lm ≡ 0 → false ≡ is_transient lm e
unfolding is_transient
transient_none lm e z = ap (λ k. nat_lt 0 k && rises_within e (2 ^ k)) (sym z)

pub transient_some : (lm n : ℕ) (e : ℕ → ℕ) (r : Bool) → (lm ≡ 0 → ⊥) → n ≡ 2 ^ lm → r ≡ rises_within e n → r ≡ is_transient lm e
unfolding is_transient
transient_some lm n e r z q h =
    let more : nat_lt 0 lm ≡ true = grind (arith, nat_tests, z) in
    rw more (h ∙ ap (rises_within e) q)

-- in mono the second list is not read
pub energies_same : (stereo : Bool) (xs ys us vs : List ℤ) → xs ≡ us → (stereo ≡ true → ys ≡ vs) → energies_in stereo xs ys ≡ energies_in stereo us vs
unfolding energies_in
energies_same true xs ys us vs e h = ap (λ zs. energies_in true zs ys) e ∙ ap (energies_in true us) (h refl)
energies_same false xs ys us vs e h = ap (λ zs. energies_in false zs ys) e ∙ (λ k b. block_energy us b)
