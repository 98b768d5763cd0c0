-- The sizes of the numbers on the way to what is wanted, and the sum that is carried.
use Rattle.std.proofs.Common.{◌≡◌, ℕ, ◌+◌, ◌-◌, ◌*◌, ◌%◌, ◌^◌, ◌≤◌, w64, FitsSigned, List, get_or, sym, ◌∙◌, ap, add-one, arith}
use Rattle.std.specs.Prelude.{ℤ, pos, neg_ℤ, ◌+ℤ◌, ◌-ℤ◌, ◌*ℤ◌, ◌≤ℤ◌, unsigned_abs}
use Rattle.std.specs.Int.{int_shr}
use Rattle.std.proofs.lemmas.Nat.{mul-le}
use Rattle.std.proofs.lemmas.Int.{ints, fits_signed_from_abs, unsigned_abs-mul}
use Rattle.std.proofs.Math.Nat.{mod-eq_of_lt, pow-le-pow_right}
use Rattle.celt_base.specs.Energies.{IsEnergy}
use Rattle.band_energy.specs.EnergyValues.{carried}
use Rattle.band_energy.proofs.ValueSteps.{shr_within}

-- Every number on the way from a prediction to the steps fits its type.
pub record StepsFit (target predicted : ℤ) : Type 0 where
  pub target_fits : FitsSigned w64 target
  pub predicted_fits : FitsSigned w64 predicted
  pub product : FitsSigned w64 (target *ℤ pos 128)
  pub between : FitsSigned w64 (target *ℤ pos 128 -ℤ predicted)
  pub sum : FitsSigned w64 (target *ℤ pos 128 -ℤ predicted +ℤ pos 65536)
  pub steps : FitsSigned w64 (int_shr (target *ℤ pos 128 -ℤ predicted +ℤ pos 65536) 17)

pub steps_fit : (target predicted : ℤ) → unsigned_abs target ≤ 2 ^ 16 → neg_ℤ (pos (21 * 2 ^ 32)) ≤ℤ predicted → predicted ≤ℤ pos (125 * 2 ^ 33)
    → StepsFit target predicted
steps_fit target predicted near low high =
    let small : unsigned_abs predicted ≤ 2 ^ 40 = omega (arith, ints, low, high) in
    let product : unsigned_abs (target *ℤ pos 128) ≤ 2 ^ 23 = omega (arith, ints, near) in
    let between : unsigned_abs (target *ℤ pos 128 -ℤ predicted) ≤ 2 ^ 41 = omega (arith, ints, product, small) in
    let sum : unsigned_abs (target *ℤ pos 128 -ℤ predicted +ℤ pos 65536) ≤ 2 ^ 42 = omega (arith, ints, between) in
    let steps = shr_within (target *ℤ pos 128 -ℤ predicted +ℤ pos 65536) 17 (2 ^ 42) sum in record {
      target_fits = fits_signed_from_abs w64 target (omega (arith, near));
      predicted_fits = fits_signed_from_abs w64 predicted (omega (arith, small));
      product = fits_signed_from_abs w64 (target *ℤ pos 128) (omega (arith, product));
      between = fits_signed_from_abs w64 (target *ℤ pos 128 -ℤ predicted) (omega (arith, between));
      sum = fits_signed_from_abs w64 (target *ℤ pos 128 -ℤ predicted +ℤ pos 65536) (omega (arith, sum));
      steps = fits_signed_from_abs w64 (int_shr (target *ℤ pos 128 -ℤ predicted +ℤ pos 65536) 17) (omega (arith, steps));
    }

-- What the bands below `n` carry.
pub record IsCarried (beta : ℕ) (values : List ℤ) (sum : ℤ) (n : ℕ) : Type 0 where
  pub value : sum ≡ carried beta values n
  pub size : unsigned_abs sum ≤ 2 ^ 32 * n

pub carried_more : (beta : ℕ) (values : List ℤ) (sum next steps : ℤ) (n : ℕ) → IsCarried beta values sum n
    → steps ≡ get_or values n (pos 0)
    → next ≡ sum +ℤ pos (2 ^ 17 - 4 * beta) *ℤ steps
    → unsigned_abs next ≤ unsigned_abs sum + 2 ^ 32
    → IsCarried beta values next (n + 1)
carried_more beta values sum next steps n before steps_is next_is grows = record {
  value =
      next_is
      ∙ ap (λ x. x +ℤ pos (2 ^ 17 - 4 * beta) *ℤ steps) before.value
      ∙ ap (λ x. carried beta values n +ℤ pos (2 ^ 17 - 4 * beta) *ℤ x) steps_is
      ∙ ap (carried beta values) (sym (add-one n));
  size = let s = before.size in omega (arith, s, grows);
}

-- Every number on the way from a target to a fine energy of `parts` parts fits its type.
pub record FineFits (target energy : ℤ) (parts : ℕ) : Type 0 where
  pub target_fits : FitsSigned w64 target
  pub energy_fits : FitsSigned w64 energy
  pub less : FitsSigned w64 (target -ℤ energy)
  pub sum : FitsSigned w64 (target -ℤ energy +ℤ pos 512)
  pub product : FitsSigned w64 ((target -ℤ energy +ℤ pos 512) *ℤ pos parts)
  pub wanted : FitsSigned w64 (int_shr ((target -ℤ energy +ℤ pos 512) *ℤ pos parts) 10)

parts_within : (z : ℤ) (parts m : ℕ) → unsigned_abs z ≤ m → parts ≤ 256 → unsigned_abs (z *ℤ pos parts) ≤ m * 256
parts_within z parts m size few = let e = unsigned_abs-mul z (pos parts) in let p = mul-le (unsigned_abs z) parts m 256 size few in omega (arith, e, p)

pub fine_fits : (target energy : ℤ) (parts : ℕ) → unsigned_abs target ≤ 2 ^ 16 → IsEnergy energy → parts ≤ 256 → FineFits target energy parts
fine_fits target energy parts near is_energy few =
    let low = is_energy.least in
    let high = is_energy.most in
    let size : unsigned_abs energy ≤ 2 ^ 33 = omega (arith, ints, low, high) in
    let less : unsigned_abs (target -ℤ energy) ≤ 2 ^ 34 = omega (arith, ints, near, size) in
    let sum : unsigned_abs (target -ℤ energy +ℤ pos 512) ≤ 2 ^ 35 = omega (arith, ints, less) in
    let product = parts_within (target -ℤ energy +ℤ pos 512) parts (2 ^ 35) sum few in
    let wanted = shr_within ((target -ℤ energy +ℤ pos 512) *ℤ pos parts) 10 (2 ^ 43) product in record {
      target_fits = fits_signed_from_abs w64 target (omega (arith, near));
      energy_fits = fits_signed_from_abs w64 energy (omega (arith, size));
      less = fits_signed_from_abs w64 (target -ℤ energy) (omega (arith, less));
      sum = fits_signed_from_abs w64 (target -ℤ energy +ℤ pos 512) (omega (arith, sum));
      product = fits_signed_from_abs w64 ((target -ℤ energy +ℤ pos 512) *ℤ pos parts) (omega (arith, product));
      wanted = fits_signed_from_abs w64 (int_shr ((target -ℤ energy +ℤ pos 512) *ℤ pos parts) 10) (omega (arith, wanted));
    }

-- As many parts as bits make.
pub few_parts : (bits : ℕ) → bits ≤ 8 → 2 ^ bits ≤ 256
few_parts bits few = pow-le-pow_right (omega arith) few

pub parts_are : (bits : ℕ) → bits ≤ 8 → (1 * 2 ^ bits) % 4294967296 ≡ 2 ^ bits
parts_are bits few = let e = few_parts bits few in mod-eq_of_lt (omega (arith, e)) ∙ omega arith
