use Rattle.std.proofs.Common.{◌≡◌, ℕ, ◌<◌, true, false, arith, rules, length}
use Rattle.std.specs.Prelude.{ℤ, FitsSigned}
use Rattle.std.specs.Int.{w64}
use Rattle.std.proofs.lemmas.Int.{to_z-of_z, fits_signed_from_abs}
use Rattle.fixed_math.specs.Items.{item}
use Rattle.spread_fold.specs.Stereo.{channel_item}
use Rattle.spread_fold.proofs.StereoLemmas.{Separated, separated_more, channel_from}
use Rattle.spread_fold.proofs.stereo.separate.Goals as goal

pub loop-i-preserved : goal.loop-i-preserved
loop-i-preserved c =
    let i : ℕ = c.loop-i.i in
    let fm = c.ranges.mid in
    let v : ℤ = c.sides_of-sides.result.left in
    let w : ℤ = c.sides_of-sides.result.right in
    let fx : FitsSigned w64 (item c.loop-i.x i) = search rules in
    let fy : FitsSigned w64 (item c.loop-i.y i) = search rules in
    let fv : FitsSigned w64 v = fits_signed_from_abs w64 v (omega (arith, c.sides_of-sides.ensures.left_size)) in
    let fw : FitsSigned w64 w = fits_signed_from_abs w64 w (omega (arith, c.sides_of-sides.ensures.right_size)) in
    let e : v ≡ channel_item c.args.mid false (item c.loop-i.x i) (item c.loop-i.y i) = simp to_z-of_z at c.sides_of-sides.ensures.left in
    let f : w ≡ channel_item c.args.mid true (item c.loop-i.x i) (item c.loop-i.y i) = simp to_z-of_z at c.sides_of-sides.ensures.right in
    let l : i < length c.loop-i.x = omega arith in
    let m : i < length c.loop-i.y = omega arith in
    let r : Separated i c.args.mid c.args.x.now c.args.y.now c.loop-i.x c.loop-i.y = simp to_z-of_z at c.loop-i.invariant in
    simp to_z-of_z (separated_more i c.args.mid c.args.x.now c.args.y.now c.loop-i.x c.loop-i.y v w l m e f r)

pub returns-clause-left : goal.returns-clause-left
returns-clause-left c =
    let fm = c.ranges.mid in
    let r : Separated c.loop-i.i c.args.mid c.args.x.now c.args.y.now c.loop-i.x c.loop-i.y = simp to_z-of_z at c.loop-i.invariant in
    channel_from c.args.mid false c.args.x.now c.args.y.now c.loop-i.x c.loop-i.i (omega arith) (omega arith) r.lefts

pub returns-clause-right : goal.returns-clause-right
returns-clause-right c =
    let fm = c.ranges.mid in
    let r : Separated c.loop-i.i c.args.mid c.args.x.now c.args.y.now c.loop-i.x c.loop-i.y = simp to_z-of_z at c.loop-i.invariant in
    channel_from c.args.mid true c.args.x.now c.args.y.now c.loop-i.y c.loop-i.i (omega arith) (omega arith) r.rights
