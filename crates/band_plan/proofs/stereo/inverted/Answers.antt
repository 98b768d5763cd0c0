use Rattle.std.proofs.Common.{arith}
use Rattle.std.specs.Prelude.{FitsSigned}
use Rattle.std.specs.Int.{w32}
use Rattle.std.proofs.lemmas.Int.{to_z-of_z, fits_signed_from_abs}
use Rattle.celt_base.proofs.WalkValues.{is_one_test}
use Rattle.band_plan.proofs.StereoSteps.{inverted_by, below_two}
use Rattle.band_plan.proofs.stereo.inverted.Goals as goal

pub returns-clause-value : goal.returns-clause-value
returns-clause-value c =
    let f1 = below_two c.args.timed.answer c.requires.answer in
    let s = c.requires.spent in
    let f2 : FitsSigned w32 c.args.timed.spent = fits_signed_from_abs w32 c.args.timed.spent (omega (arith, s)) in
    simp to_z-of_z (inverted_by c.args.timed _ (is_one_test c.args.timed.answer f1))
