-- The sizes of the parts of an energy.
use Rattle.std.proofs.Common.{◌≡◌, ℕ, suc, ◌+◌, ◌*◌, ◌^◌, ◌≤◌, w64, FitsSigned, sym, subst, arith}
use Rattle.std.specs.Prelude.{ℤ, pos, negsuc, neg_ℤ, ◌+ℤ◌, ◌*ℤ◌, ◌≤ℤ◌, ◌<ℤ◌, unsigned_abs}
use Rattle.std.specs.Int.{int_shr, int_max}
use Rattle.std.proofs.lemmas.Nat.{mul-le}
use Rattle.std.proofs.lemmas.Int.{ints, int_max_is, fits_signed_from_abs}
use Rattle.std.proofs.Math.IntN.{pos-*ℤ-negsuc}
use Rattle.std.proofs.Math.Nat.{div-le_self}
use Rattle.celt_base.specs.Energies.{IsEnergy}

pub alpha_product : (alpha : ℕ) (m : ℤ) → alpha ≤ 29440 → neg_ℤ (pos 9216) ≤ℤ m → m <ℤ pos (2 ^ 33)
    → (neg_ℤ (pos (29440 * 9216)) ≤ℤ (pos alpha *ℤ m)) × ((pos alpha *ℤ m) ≤ℤ pos (29440 * 2 ^ 33))
alpha_product alpha (pos n) small low high = let e = mul-le alpha n 29440 (2 ^ 33) small (omega (arith, ints)) in (omega (arith, ints), omega (arith, ints))
alpha_product alpha (negsuc n) small low high =
    let e = mul-le alpha (suc n) 29440 9216 small (omega (arith, ints)) in
    let f = pos-*ℤ-negsuc alpha n in
    (omega (arith, ints, e, f), omega (arith, ints, e, f))

-- a shift does not grow a number
pub shr_within : (z : ℤ) (k m : ℕ) → unsigned_abs z ≤ m → unsigned_abs (int_shr z k) ≤ m
shr_within (pos a) k m h = omega (arith, div-le_self a (2 ^ k))
shr_within (negsuc a) k m h = omega (arith, div-le_self a (2 ^ k))

shr_most : (z : ℤ) (m : ℕ) → z ≤ℤ pos (256 * m + 255) → int_shr z 8 ≤ℤ pos m
shr_most (pos a) m most = omega (arith, ints)
shr_most (negsuc a) m most = omega (arith, ints)

-- Every number on the way to what is kept fits its type, `p` being the product.
pub record KeptFits (p : ℤ) : Type 0 where
  pub product : FitsSigned w64 p
  pub sum : FitsSigned w64 (p +ℤ pos 128)
  pub shift : FitsSigned w64 (int_shr (p +ℤ pos 128) 8)
  pub most : int_shr (p +ℤ pos 128) 8 ≤ℤ pos (115 * 2 ^ 33)

product_fits : (p : ℤ) → neg_ℤ (pos (29440 * 9216)) ≤ℤ p → p ≤ℤ pos (29440 * 2 ^ 33) → KeptFits p
product_fits p low high =
    let small : unsigned_abs (p +ℤ pos 128) ≤ 2 ^ 49 = omega (arith, ints) in
    let s = shr_within (p +ℤ pos 128) 8 (2 ^ 49) small in record {
      product = fits_signed_from_abs w64 p (omega (arith, ints));
      sum = fits_signed_from_abs w64 (p +ℤ pos 128) (omega arith);
      shift = fits_signed_from_abs w64 (int_shr (p +ℤ pos 128) 8) (omega arith);
      most = shr_most (p +ℤ pos 128) (115 * 2 ^ 33) (omega (arith, ints));
    }

pub kept_fits : (alpha : ℕ) (z m : ℤ) → z ≡ pos alpha → alpha ≤ 29440 → neg_ℤ (pos 9216) ≤ℤ m → m <ℤ pos (2 ^ 33) → KeptFits (z *ℤ m)
kept_fits alpha z m is small low high =
    let both = alpha_product alpha m small low high in
    subst (λ v. KeptFits (v *ℤ m)) (sym is) (product_fits (pos alpha *ℤ m) both.0 both.1)

-- Every number on the way to an energy fits its type, `z` being the greater of the sum and the least.
pub record EnergyFits (z : ℤ) : Type 0 where
  pub sum : FitsSigned w64 (z +ℤ pos 64)
  pub shift : FitsSigned w64 (int_shr (z +ℤ pos 64) 7)

pub energy_fits : (z : ℤ) → neg_ℤ (pos (28 * 2 ^ 17)) ≤ℤ z → z ≤ℤ pos (126 * 2 ^ 33) → EnergyFits z
energy_fits z low high =
    let small : unsigned_abs (z +ℤ pos 64) ≤ 2 ^ 49 = omega (arith, ints) in
    let s = shr_within (z +ℤ pos 64) 7 (2 ^ 49) small in record {
      sum = fits_signed_from_abs w64 (z +ℤ pos 64) (omega arith);
      shift = fits_signed_from_abs w64 (int_shr (z +ℤ pos 64) 7) (omega arith);
    }

pub max_most : (x y m z : ℤ) → z ≡ int_max x y → x ≤ℤ m → y ≤ℤ m → z ≤ℤ m
max_most x y m z is first second = subst (λ v. v ≤ℤ m) (sym is) (omega (arith, ints, int_max_is x y))

pub energy_type : (z : ℤ) → IsEnergy z → FitsSigned w64 z
energy_type z energy = let low = energy.least in let high = energy.most in fits_signed_from_abs w64 z (omega (arith, ints, low, high))
