use Rattle.std.proofs.Common.{◌≡◌, ◌^◌, ◌≤◌, arith}
use Rattle.std.specs.Prelude.{◌+ℤ◌, ◌*ℤ◌, unsigned_abs, FitsSigned}
use Rattle.std.specs.Int.{w32}
use Rattle.std.proofs.lemmas.Int.{to_z-of_z}
use Rattle.celt_analysis.specs.Pitch.{positive_part}
use Rattle.celt_analysis.proofs.EstimateLemmas.{BoundSteps, bound_steps, fits-size, positive_part-size}
use Rattle.celt_analysis.proofs.search.bound_of.Goals as goal

pub returns-clause-value : goal.returns-clause-value
returns-clause-value c =
    let fx : FitsSigned w32 c.args.sum = c.ranges.sum in
    let m : unsigned_abs c.args.sum ≤ 2 ^ 31 = fits-size c.args.sum c.ranges.sum in
    let t : BoundSteps c.args.sum c.args.e.scale c.args.e.error = bound_steps c.args.sum c.args.e.scale c.args.e.error m c.args.e.scale_size (omega (arith, c.args.e.error_size)) in
    let f0 = t.number in
    let f1 = t.factor in
    let f2 = t.product in
    let f3 = t.more in
    let f4 = t.sum in
    simp to_z-of_z at c.positive.ensures

pub returns-clause-size : goal.returns-clause-size
returns-clause-size c =
    let fx : FitsSigned w32 c.args.sum = c.ranges.sum in
    let m : unsigned_abs c.args.sum ≤ 2 ^ 31 = fits-size c.args.sum c.ranges.sum in
    let t : BoundSteps c.args.sum c.args.e.scale c.args.e.error = bound_steps c.args.sum c.args.e.scale c.args.e.error m c.args.e.scale_size (omega (arith, c.args.e.error_size)) in
    let f0 = t.number in
    let f1 = t.factor in
    let f2 = t.product in
    let f3 = t.more in
    let f4 = t.sum in
    let e : c.positive.result ≡ positive_part (c.args.sum *ℤ c.args.e.scale +ℤ c.args.e.error) = simp to_z-of_z at c.positive.ensures in
    positive_part-size (c.args.sum *ℤ c.args.e.scale +ℤ c.args.e.error) c.positive.result (2 ^ 43) e t.size
