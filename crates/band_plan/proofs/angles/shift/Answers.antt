use Rattle.std.proofs.Common.{arith}
use Rattle.std.specs.Prelude.{FitsSigned}
use Rattle.std.specs.Int.{w32, int_shr}
use Rattle.std.proofs.lemmas.Int.{to_z-of_z, fits_signed_from_abs}
use Rattle.fixed_math.proofs.RoundingLemmas.{shr_within}
use Rattle.band_plan.proofs.AngleSteps.{shift-pair, shift-other, shift_fits}
use Rattle.band_plan.proofs.angles.shift.Goals as goal

pub returns-then-pair-clause-value : goal.returns-then-pair-clause-value
returns-then-pair-clause-value c =
    let f : FitsSigned w32 c.args.price = c.ranges.price in
    let s = shr_within c.args.price 1 70 c.requires in
    let g : FitsSigned w32 (int_shr c.args.price 1) = fits_signed_from_abs w32 (int_shr c.args.price 1) (omega (arith, s)) in
    let h = shift_fits c.args.price 16 c.requires (omega arith) in
    simp to_z-of_z (shift-pair c.args.pair c.args.price c.if-pair.true)

pub returns-else-pair-clause-value : goal.returns-else-pair-clause-value
returns-else-pair-clause-value c =
    let f : FitsSigned w32 c.args.price = c.ranges.price in
    let s = shr_within c.args.price 1 70 c.requires in
    let g : FitsSigned w32 (int_shr c.args.price 1) = fits_signed_from_abs w32 (int_shr c.args.price 1) (omega (arith, s)) in
    let h = shift_fits c.args.price 4 c.requires (omega arith) in
    simp to_z-of_z (shift-other c.args.pair c.args.price c.if-pair.false)
