use Rattle.std.proofs.Common.{◌≡◌, ◌-◌, ◌*◌, ◌/◌, ◌^◌, arith, refl, true, false}
use Rattle.std.specs.Prelude.{pos, ◌+ℤ◌, ◌-ℤ◌, ◌≤ℤ◌, ◌<ℤ◌, int_lt, FitsSigned}
use Rattle.std.specs.Int.{w64, int_shr}
use Rattle.std.proofs.lemmas.Int.{ints, to_z-of_z, fits_signed_from_abs}
use Rattle.fixed_math.proofs.RoundingLemmas.{shr_within}
use Rattle.band_plan.proofs.AngleSteps.{short_high, short_low, short_none, grown_small}
use Rattle.band_plan.proofs.angles.short_delta.Goals as goal

pub returns-then-theta-gt8192-clause-value : goal.returns-then-theta-gt8192-clause-value
returns-then-theta-gt8192-clause-value c =
    let d = c.requires.delta in
    let s = shr_within c.args.delta (5 - c.args.level) (2 ^ 31) d in
    let f1 : FitsSigned w64 c.args.delta = c.ranges.delta in
    let f2 : FitsSigned w64 (int_shr c.args.delta (5 - c.args.level)) = fits_signed_from_abs w64 (int_shr c.args.delta (5 - c.args.level)) (omega (arith, s)) in
    let f3 : FitsSigned w64 (c.args.delta -ℤ int_shr c.args.delta (5 - c.args.level)) = fits_signed_from_abs w64 (c.args.delta -ℤ int_shr c.args.delta (5 - c.args.level)) (omega (arith, ints, s, d)) in
    simp to_z-of_z (short_high c.args.level c.args.n c.args.theta c.args.delta c.if-theta-gt8192.true)

pub returns-then-raised-lt0-clause-value : goal.returns-then-raised-lt0-clause-value
returns-then-raised-lt0-clause-value c =
    let d = c.requires.delta in
    let m = grown_small c.args.level c.args.n c.requires.level c.requires.n in
    let f1 : FitsSigned w64 c.args.delta = c.ranges.delta in
    let f2 : FitsSigned w64 (pos (8 * c.args.n / 2 ^ (6 - c.args.level))) = fits_signed_from_abs w64 (pos (8 * c.args.n / 2 ^ (6 - c.args.level))) (omega (arith, m)) in
    let f3 : FitsSigned w64 (c.args.delta +ℤ pos (8 * c.args.n / 2 ^ (6 - c.args.level))) = fits_signed_from_abs w64 (c.args.delta +ℤ pos (8 * c.args.n / 2 ^ (6 - c.args.level))) (omega (arith, ints, m, d)) in
    let t = rw c.from.ensures at c.if-raised-lt0.true in
    let u : int_lt (c.args.delta +ℤ pos (8 * c.args.n / 2 ^ (6 - c.args.level))) (pos 0) ≡ true = simp to_z-of_z at t in
    let low : (c.args.delta +ℤ pos (8 * c.args.n / 2 ^ (6 - c.args.level))) <ℤ pos 0 = grind (arith, ints, u) in
    rw c.from.ensures (simp to_z-of_z (short_low c.args.level c.args.n c.args.theta c.args.delta (c.args.delta +ℤ pos (8 * c.args.n / 2 ^ (6 - c.args.level))) c.if-theta-gt8192.false refl low))

pub returns-else-raised-lt0-clause-value : goal.returns-else-raised-lt0-clause-value
returns-else-raised-lt0-clause-value c =
    let d = c.requires.delta in
    let m = grown_small c.args.level c.args.n c.requires.level c.requires.n in
    let f1 : FitsSigned w64 c.args.delta = c.ranges.delta in
    let f2 : FitsSigned w64 (pos (8 * c.args.n / 2 ^ (6 - c.args.level))) = fits_signed_from_abs w64 (pos (8 * c.args.n / 2 ^ (6 - c.args.level))) (omega (arith, m)) in
    let f3 : FitsSigned w64 (c.args.delta +ℤ pos (8 * c.args.n / 2 ^ (6 - c.args.level))) = fits_signed_from_abs w64 (c.args.delta +ℤ pos (8 * c.args.n / 2 ^ (6 - c.args.level))) (omega (arith, ints, m, d)) in
    let t = rw c.from.ensures at c.if-raised-lt0.false in
    let u : int_lt (c.args.delta +ℤ pos (8 * c.args.n / 2 ^ (6 - c.args.level))) (pos 0) ≡ false = simp to_z-of_z at t in
    let high : pos 0 ≤ℤ (c.args.delta +ℤ pos (8 * c.args.n / 2 ^ (6 - c.args.level))) = grind (arith, ints, u) in
    short_none c.args.level c.args.n c.args.theta c.args.delta (c.args.delta +ℤ pos (8 * c.args.n / 2 ^ (6 - c.args.level))) c.if-theta-gt8192.false refl high
