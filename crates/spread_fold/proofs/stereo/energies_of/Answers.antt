use Rattle.std.proofs.Common.{◌≡◌, ℕ, ap, ◌∙◌, arith, rules, true, false, List}
use Rattle.std.specs.Prelude.{ℤ, FitsSigned}
use Rattle.std.specs.Int.{w64}
use Rattle.std.proofs.lemmas.Int.{to_z-of_z, fits_signed_from_abs}
use Rattle.fixed_math.specs.Unit.{square}
use Rattle.fixed_math.specs.Items.{item}
use Rattle.spread_fold.specs.Stereo.{channel_item}
use Rattle.spread_fold.proofs.StereoLemmas.{summed_more, summed_end}
use Rattle.spread_fold.proofs.stereo.energies_of.Goals as goal

pub loop-i-preserved : goal.loop-i-preserved
loop-i-preserved c =
    let i : ℕ = c.loop-i.i in
    let xs : List ℤ = c.args.x.now in
    let ys : List ℤ = c.args.y.now in
    let v : ℤ = c.sides_of-sides.result.left in
    let w : ℤ = c.sides_of-sides.result.right in
    let fm = c.ranges.mid in
    let fx : FitsSigned w64 (item xs i) = search rules in
    let fy : FitsSigned w64 (item ys i) = search rules in
    let fv : FitsSigned w64 v = fits_signed_from_abs w64 v (omega (arith, c.sides_of-sides.ensures.left_size)) in
    let fw : FitsSigned w64 w = fits_signed_from_abs w64 w (omega (arith, c.sides_of-sides.ensures.right_size)) in
    let e : v ≡ channel_item c.args.mid false (item xs i) (item ys i) = simp to_z-of_z at c.sides_of-sides.ensures.left in
    let f : w ≡ channel_item c.args.mid true (item xs i) (item ys i) = simp to_z-of_z at c.sides_of-sides.ensures.right in
    let p : c.square_of-left.result ≡ square v = simp to_z-of_z at c.square_of-left.ensures.value in
    let q : c.square_of-right.result ≡ square w = simp to_z-of_z at c.square_of-right.ensures.value in
    let r = simp to_z-of_z at c.loop-i.invariant.lefts in
    let s = simp to_z-of_z at c.loop-i.invariant.rights in
    record {
      lefts = simp to_z-of_z (summed_more i c.loop-i.left c.square_of-left.result (λ j. channel_item c.args.mid false (item xs j) (item ys j)) (p ∙ ap square e) c.square_of-left.ensures.size r);
      rights = simp to_z-of_z (summed_more i c.loop-i.right c.square_of-right.result (λ j. channel_item c.args.mid true (item xs j) (item ys j)) (q ∙ ap square f) c.square_of-right.ensures.size s);
    }

pub returns-clause-left : goal.returns-clause-left
returns-clause-left c =
    let fm = c.ranges.mid in
    let r = simp to_z-of_z at c.loop-i.invariant.lefts in
    summed_end c.args.mid false c.args.x.now c.args.y.now c.loop-i.i c.loop-i.left (omega arith) r

pub returns-clause-right : goal.returns-clause-right
returns-clause-right c =
    let fm = c.ranges.mid in
    let r = simp to_z-of_z at c.loop-i.invariant.rights in
    summed_end c.args.mid true c.args.x.now c.args.y.now c.loop-i.i c.loop-i.right (omega arith) r
