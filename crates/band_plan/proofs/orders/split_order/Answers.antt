use Rattle.std.proofs.Common.{◌≡◌, refl, arith}
use Rattle.std.specs.Prelude.{◌-ℤ◌, FitsSigned}
use Rattle.std.specs.Int.{w64, w32}
use Rattle.std.proofs.lemmas.Int.{ints, to_z-of_z, fits_signed_from_abs}
use Rattle.band_plan.specs.Orders.{order_of}
use Rattle.band_plan.proofs.OrderSteps.{split_by}
use Rattle.band_plan.proofs.orders.split_order.Goals as goal

pub returns-clause-value : goal.returns-clause-value
returns-clause-value c =
    let b = c.requires.bits in
    let s = c.requires.angle.spent in
    let f1 : FitsSigned w32 c.args.share.bits = fits_signed_from_abs w32 c.args.share.bits (omega (arith, b)) in
    let f2 : FitsSigned w32 c.args.theta.spent = fits_signed_from_abs w32 c.args.theta.spent (omega (arith, s)) in
    let f3 : FitsSigned w32 (c.args.share.bits -ℤ c.args.theta.spent) = fits_signed_from_abs w32 (c.args.share.bits -ℤ c.args.theta.spent) (omega (arith, ints, b, s)) in
    let f4 : FitsSigned w64 c.split_delta.result = record { sfits = c.split_delta.type_inv } in
    let e : c.ordered.result ≡ order_of (c.args.share.bits -ℤ c.args.theta.spent) c.split_delta.result c.args.theta.theta = simp to_z-of_z at c.ordered.ensures.value in
    split_by c.args.level c.args.piece c.args.share c.args.theta (c.args.share.bits -ℤ c.args.theta.spent) c.split_delta.result c.ordered.result refl c.split_delta.ensures.value e
