use Rattle.std.proofs.Common.{◌≤◌, ◌-◌, ◌^◌, arith, refl}
use Rattle.std.specs.Prelude.{pos, ◌+ℤ◌, ◌-ℤ◌, int_div, min, unsigned_abs, FitsSigned}
use Rattle.std.specs.Int.{w32}
use Rattle.std.proofs.lemmas.Int.{ints, to_z-of_z, to_z_pos, fits_signed_from_abs}
use Rattle.fixed_math.proofs.RoundingLemmas.{quotient_within}
use Rattle.band_plan.specs.Plans.{pulses_of}
use Rattle.band_plan.proofs.plans.portion.Goals as goal

pub overflow_add-result : goal.overflow_add-result
overflow_add-result c =
    let p = c.requires.pulses in
    let r = c.requires.running in
    let n = c.requires.now in
    let d : unsigned_abs (c.args.running.balance -ℤ pos c.args.now) ≤ 2 ^ 24 = omega (arith, ints, r, n) in
    let q = quotient_within (c.args.running.balance -ℤ pos c.args.now) (pos (min 3 (c.args.a.now.coded - c.args.band))) (2 ^ 24) d in
    let f1 : FitsSigned w32 (pulses_of c.args.a.now c.args.band) = fits_signed_from_abs w32 (pulses_of c.args.a.now c.args.band) (omega (arith, p)) in
    let f2 : FitsSigned w32 c.args.running.balance = fits_signed_from_abs w32 c.args.running.balance (omega (arith, r)) in
    let f3 : FitsSigned w32 (c.args.running.balance -ℤ pos c.args.now) = fits_signed_from_abs w32 (c.args.running.balance -ℤ pos c.args.now) (omega (arith, d)) in
    let f4 : FitsSigned w32 (int_div (c.args.running.balance -ℤ pos c.args.now) (pos (min 3 (c.args.a.now.coded - c.args.band)))) = fits_signed_from_abs w32 (int_div (c.args.running.balance -ℤ pos c.args.now) (pos (min 3 (c.args.a.now.coded - c.args.band)))) (omega (arith, q)) in
    let f5 : FitsSigned w32 (pulses_of c.args.a.now c.args.band +ℤ int_div (c.args.running.balance -ℤ pos c.args.now) (pos (min 3 (c.args.a.now.coded - c.args.band)))) = fits_signed_from_abs w32 (pulses_of c.args.a.now c.args.band +ℤ int_div (c.args.running.balance -ℤ pos c.args.now) (pos (min 3 (c.args.a.now.coded - c.args.band)))) (omega (arith, ints, p, q)) in
    rw (c.min-parts.ensures, to_z_pos w32 c.args.now (omega (arith, n)), to_z_pos w32 (min 3 (c.args.a.now.coded - c.args.band)) (omega arith)) (simp to_z-of_z f5)

pub returns : goal.returns
returns c =
    let p = c.requires.pulses in
    let r = c.requires.running in
    let n = c.requires.now in
    let d : unsigned_abs (c.args.running.balance -ℤ pos c.args.now) ≤ 2 ^ 24 = omega (arith, ints, r, n) in
    let q = quotient_within (c.args.running.balance -ℤ pos c.args.now) (pos (min 3 (c.args.a.now.coded - c.args.band))) (2 ^ 24) d in
    let f1 : FitsSigned w32 (pulses_of c.args.a.now c.args.band) = fits_signed_from_abs w32 (pulses_of c.args.a.now c.args.band) (omega (arith, p)) in
    let f2 : FitsSigned w32 c.args.running.balance = fits_signed_from_abs w32 c.args.running.balance (omega (arith, r)) in
    let f3 : FitsSigned w32 (c.args.running.balance -ℤ pos c.args.now) = fits_signed_from_abs w32 (c.args.running.balance -ℤ pos c.args.now) (omega (arith, d)) in
    let f4 : FitsSigned w32 (int_div (c.args.running.balance -ℤ pos c.args.now) (pos (min 3 (c.args.a.now.coded - c.args.band)))) = fits_signed_from_abs w32 (int_div (c.args.running.balance -ℤ pos c.args.now) (pos (min 3 (c.args.a.now.coded - c.args.band)))) (omega (arith, q)) in
    let f5 : FitsSigned w32 (pulses_of c.args.a.now c.args.band +ℤ int_div (c.args.running.balance -ℤ pos c.args.now) (pos (min 3 (c.args.a.now.coded - c.args.band)))) = fits_signed_from_abs w32 (pulses_of c.args.a.now c.args.band +ℤ int_div (c.args.running.balance -ℤ pos c.args.now) (pos (min 3 (c.args.a.now.coded - c.args.band)))) (omega (arith, ints, p, q)) in
    rw (c.min-parts.ensures, to_z_pos w32 c.args.now (omega (arith, n)), to_z_pos w32 (min 3 (c.args.a.now.coded - c.args.band)) (omega arith)) (simp to_z-of_z refl)
