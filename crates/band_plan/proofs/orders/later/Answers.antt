use Rattle.std.proofs.Common.{arith}
use Rattle.std.specs.Prelude.{pos, ◌+ℤ◌, ◌-ℤ◌, ◌<ℤ◌, FitsSigned}
use Rattle.std.specs.Int.{w32}
use Rattle.std.proofs.lemmas.Int.{ints, to_z-of_z, fits_signed_from_abs}
use Rattle.band_plan.proofs.OrderSteps.{later_more, sum_within}
use Rattle.band_plan.proofs.orders.later.Goals as goal

pub returns : goal.returns
returns c =
    let a = c.requires.first in
    let b = c.requires.other in
    let d = c.requires.together in
    let u = c.requires.used in
    let f1 : FitsSigned w32 c.args.order.first = fits_signed_from_abs w32 c.args.order.first (omega (arith, a)) in
    let f2 : FitsSigned w32 c.args.order.other = fits_signed_from_abs w32 c.args.order.other (omega (arith, b)) in
    let f3 : FitsSigned w32 c.args.used = fits_signed_from_abs w32 c.args.used (omega (arith, u)) in
    let f4 : FitsSigned w32 (c.args.order.first -ℤ c.args.used) = fits_signed_from_abs w32 (c.args.order.first -ℤ c.args.used) (omega (arith, ints, a, u)) in
    let f5 : FitsSigned w32 ((c.args.order.first -ℤ c.args.used) -ℤ pos 24) = fits_signed_from_abs w32 ((c.args.order.first -ℤ c.args.used) -ℤ pos 24) (omega (arith, ints, a, u)) in
    let f6 : FitsSigned w32 (c.args.order.other +ℤ ((c.args.order.first -ℤ c.args.used) -ℤ pos 24)) = fits_signed_from_abs w32 (c.args.order.other +ℤ ((c.args.order.first -ℤ c.args.used) -ℤ pos 24)) (let s = sum_within c.args.order.first c.args.order.other c.args.used d u in omega (arith, s)) in
    let h : pos 24 <ℤ (c.args.order.first -ℤ c.args.used) = grind (arith, ints, c.if-spare-le24.false, a, u) in
    simp to_z-of_z (later_more c.args.order c.args.used c.if-order.false h)
