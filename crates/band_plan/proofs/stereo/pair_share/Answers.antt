use Rattle.std.proofs.Common.{arith}
use Rattle.std.specs.Prelude.{pos, ◌-ℤ◌, FitsSigned}
use Rattle.std.specs.Int.{w32}
use Rattle.std.proofs.lemmas.Int.{ints, to_z-of_z, to_z_pos, fits_signed_from_abs}
use Rattle.band_plan.proofs.StereoSteps.{pair_by}
use Rattle.band_plan.proofs.stereo.pair_share.Goals as goal

pub returns : goal.returns
returns c =
    let b = c.requires.bits in
    let l = c.requires.left in
    let s = c.requires.angle.spent in
    let m = c.side_cost-cost.ensures.most in
    let f1 : FitsSigned w32 c.args.share.bits = fits_signed_from_abs w32 c.args.share.bits (omega (arith, b)) in
    let f2 : FitsSigned w32 c.args.share.left = fits_signed_from_abs w32 c.args.share.left (omega (arith, l)) in
    let f3 : FitsSigned w32 c.args.theta.spent = fits_signed_from_abs w32 c.args.theta.spent (omega (arith, s)) in
    let f4 : FitsSigned w32 (c.args.share.bits -ℤ c.args.theta.spent) = fits_signed_from_abs w32 (c.args.share.bits -ℤ c.args.theta.spent) (omega (arith, ints, b, s)) in
    let f5 : FitsSigned w32 (c.args.share.left -ℤ c.args.theta.spent) = fits_signed_from_abs w32 (c.args.share.left -ℤ c.args.theta.spent) (omega (arith, ints, l, s)) in
    let f6 : FitsSigned w32 ((c.args.share.bits -ℤ c.args.theta.spent) -ℤ pos c.side_cost-cost.result) = fits_signed_from_abs w32 ((c.args.share.bits -ℤ c.args.theta.spent) -ℤ pos c.side_cost-cost.result) (omega (arith, ints, b, s, m)) in
    let f7 : FitsSigned w32 ((c.args.share.left -ℤ c.args.theta.spent) -ℤ pos c.side_cost-cost.result) = fits_signed_from_abs w32 ((c.args.share.left -ℤ c.args.theta.spent) -ℤ pos c.side_cost-cost.result) (omega (arith, ints, l, s, m)) in
    rw (to_z_pos w32 c.side_cost-cost.result (omega (arith, m))) (simp to_z-of_z (pair_by c.args.share c.args.theta c.side_cost-cost.result c.side_cost-cost.ensures.value))
