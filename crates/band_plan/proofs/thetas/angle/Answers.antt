use Rattle.std.proofs.Common.{arith, subst, sym, refl}
use Rattle.std.specs.Prelude.{unsigned_abs, FitsSigned}
use Rattle.std.specs.Int.{w32}
use Rattle.std.proofs.lemmas.Int.{to_z-of_z, fits_signed_from_abs}
use Rattle.band_plan.specs.Thetas.{IsAngle}
use Rattle.band_plan.proofs.ThetaSteps.{angle_is, angle-is, below_fits}
use Rattle.band_plan.proofs.thetas.angle.Goals as goal

pub returns-clause-value : goal.returns-clause-value
returns-clause-value c =
    let f1 = below_fits c.args.steps c.args.timed.answer c.requires.answer c.requires.even.2 in
    let s = c.requires.spent in
    let f2 : FitsSigned w32 c.args.timed.spent = fits_signed_from_abs w32 c.args.timed.spent (omega (arith, s)) in
    simp to_z-of_z (angle-is c.args.steps (unsigned_abs c.args.timed.answer) c.args.timed refl)

pub returns-clause-is : goal.returns-clause-is
returns-clause-is c = subst IsAngle (sym (returns-clause-value c)) (angle_is c.args.steps c.args.timed c.requires.even c.requires.answer c.requires.spent)
