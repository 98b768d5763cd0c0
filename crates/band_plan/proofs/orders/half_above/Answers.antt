use Rattle.std.proofs.Common.{◌≤◌, ◌^◌, arith, subst, sym, refl}
use Rattle.std.specs.Prelude.{pos, ◌-ℤ◌, int_div, unsigned_abs, FitsSigned}
use Rattle.std.specs.Int.{w64, w32}
use Rattle.std.proofs.lemmas.Int.{ints, to_z-of_z, fits_signed_from_abs}
use Rattle.fixed_math.proofs.RoundingLemmas.{quotient_within}
use Rattle.band_plan.proofs.orders.half_above.Goals as goal

pub returns-clause-value : goal.returns-clause-value
returns-clause-value c =
    let b = c.requires.bits in
    let d = c.requires.delta in
    let f1 : FitsSigned w32 c.args.bits = c.ranges.bits in
    let f2 : FitsSigned w64 c.args.delta = c.ranges.delta in
    let f3 : FitsSigned w64 c.args.bits = fits_signed_from_abs w64 c.args.bits (omega (arith, b)) in
    let s : unsigned_abs (c.args.bits -ℤ c.args.delta) ≤ 2 ^ 33 = omega (arith, ints, b, d) in
    let q = quotient_within (c.args.bits -ℤ c.args.delta) (pos 2) (2 ^ 33) s in
    let f4 : FitsSigned w64 (c.args.bits -ℤ c.args.delta) = fits_signed_from_abs w64 (c.args.bits -ℤ c.args.delta) (omega (arith, s)) in
    let f5 : FitsSigned w64 (int_div (c.args.bits -ℤ c.args.delta) (pos 2)) = fits_signed_from_abs w64 (int_div (c.args.bits -ℤ c.args.delta) (pos 2)) (omega (arith, q)) in
    let e = simp to_z-of_z at c.from.ensures in
    rw e (simp to_z-of_z refl)

pub returns-clause-size : goal.returns-clause-size
returns-clause-size c =
    let b = c.requires.bits in
    let d = c.requires.delta in
    let s : unsigned_abs (c.args.bits -ℤ c.args.delta) ≤ 2 ^ 33 = omega (arith, ints, b, d) in
    let q = quotient_within (c.args.bits -ℤ c.args.delta) (pos 2) (2 ^ 33) s in
    subst (λ z. unsigned_abs z ≤ 2 ^ 33) (sym (returns-clause-value c)) q
