use Rattle.std.proofs.Common.{◌≡◌, ℕ, ◌^◌, ◌<◌, ◌≤◌, arith, List}
use Rattle.std.specs.Prelude.{ℤ, unsigned_abs, FitsSigned}
use Rattle.std.specs.Int.{w64}
use Rattle.std.proofs.lemmas.Int.{to_z-of_z, fits_signed_from_abs}
use Rattle.fixed_math.specs.Items.{item}
use Rattle.fixed_math.specs.Unit.{square}
use Rattle.fixed_math.proofs.ItemLemmas.{item_below}
use Rattle.spread_fold.proofs.StereoLemmas.{summed_start, summed_more}
use Rattle.spread_fold.proofs.CalmLemmas.{summed_all}
use Rattle.spread_fold.proofs.calm.energy_of.Goals as goal

pub loop-i-init : goal.loop-i-init
loop-i-init c = summed_start (item c.args.x.now)

pub square_of-sum-requires : goal.square_of-sum-requires
square_of-sum-requires c =
    let v : ℤ = item c.args.x.now c.loop-i.i in
    let b : unsigned_abs v < 2 ^ 20 = item_below c.args.x.now (2 ^ 20) c.loop-i.i (omega arith) c.requires.items in
    let f : FitsSigned w64 v = fits_signed_from_abs w64 v (omega arith) in
    let wide : unsigned_abs v ≤ 2 ^ 21 = omega arith in
    simp to_z-of_z wide

pub loop-i-preserved : goal.loop-i-preserved
loop-i-preserved c =
    let v : ℤ = item c.args.x.now c.loop-i.i in
    let b : unsigned_abs v < 2 ^ 20 = item_below c.args.x.now (2 ^ 20) c.loop-i.i (omega arith) c.requires.items in
    let f : FitsSigned w64 v = fits_signed_from_abs w64 v (omega arith) in
    let e : c.square_of-sum.result ≡ square v = simp to_z-of_z at c.square_of-sum.ensures.value in
    summed_more c.loop-i.i c.loop-i.sum c.square_of-sum.result (item c.args.x.now) e c.square_of-sum.ensures.size c.loop-i.invariant

pub returns : goal.returns
returns c = summed_all c.args.x.now c.loop-i.i c.loop-i.sum (omega arith) c.loop-i.invariant
