-- Rounded quotients of whole numbers, and the nearest number of 16 bits.
use Rattle.std.proofs.Common.{ℕ, ◌^◌, ◌≤◌, arith}
use Rattle.std.specs.Prelude.{ℤ, pos, negsuc, ◌+ℤ◌, ◌*ℤ◌, ◌≤ℤ◌, unsigned_abs, FitsSigned}
use Rattle.std.specs.Int.{w16, w64, int_div_euclid}
use Rattle.std.proofs.lemmas.Int.{ints, fits_signed_from_abs}
use Rattle.std.proofs.Math.Nat.{div-le_self}
use Rattle.rate_change.specs.Resampling.{nearest}

quotient_small : (a b : ℤ) (m : ℕ) → unsigned_abs a ≤ m → pos 0 ≤ℤ b → unsigned_abs (int_div_euclid a b) ≤ m
quotient_small (pos a) (pos b) m h p = omega (arith, div-le_self a b)
quotient_small (negsuc a) (pos b) m h p = omega (arith, div-le_self a b)
quotient_small (pos a) (negsuc b) m h p = absurd (omega (arith, ints))
quotient_small (negsuc a) (negsuc b) m h p = absurd (omega (arith, ints))

pub record NearestSteps (z n : ℤ) : Type 0 where
  pub twice : FitsSigned w64 (pos 2 *ℤ z)
  pub sum : FitsSigned w64 (pos 2 *ℤ z +ℤ n)
  pub divisor : FitsSigned w64 (pos 2 *ℤ n)
  pub quotient : FitsSigned w64 (nearest z n)

pub nearest_steps : (z n : ℤ) → unsigned_abs z ≤ 2 ^ 57 → pos 1 ≤ℤ n → unsigned_abs n ≤ 2 ^ 39 → NearestSteps z n
nearest_steps z n h p q =
    let a : unsigned_abs (pos 2 *ℤ z +ℤ n) ≤ 2 ^ 59 = omega (arith, ints) in
    let b : pos 0 ≤ℤ (pos 2 *ℤ n) = omega (arith, ints) in
    record {
      twice = fits_signed_from_abs w64 (pos 2 *ℤ z) (omega (arith, ints));
      sum = fits_signed_from_abs w64 (pos 2 *ℤ z +ℤ n) (omega arith);
      divisor = fits_signed_from_abs w64 (pos 2 *ℤ n) (omega (arith, ints));
      quotient = fits_signed_from_abs w64 (nearest z n) (omega (arith, quotient_small (pos 2 *ℤ z +ℤ n) (pos 2 *ℤ n) (2 ^ 59) a b));
    }

pub sixteen : (z : ℤ) → negsuc 32767 ≤ℤ z → z ≤ℤ pos 32767 → FitsSigned w16 z
sixteen (pos n) p q = record { sfits = omega (arith, ints) }
sixteen (negsuc n) p q = record { sfits = omega (arith, ints) }

pub sixteen_size : (z : ℤ) → FitsSigned w16 z → unsigned_abs z ≤ 2 ^ 15
sixteen_size (pos n) f = omega (arith, f.sfits)
sixteen_size (negsuc n) f = omega (arith, f.sfits)
