use Rattle.std.proofs.Common.{◌≡◌, ◌≤◌, arith, true, false}
use Rattle.std.specs.Prelude.{◌+ℤ◌, ◌-ℤ◌, int_le, unsigned_abs, FitsSigned}
use Rattle.std.specs.Int.{w64, w32}
use Rattle.std.proofs.lemmas.Int.{ints, to_z-of_z, fits_signed_from_abs}
use Rattle.band_plan.specs.Orders.{mid_of}
use Rattle.band_plan.proofs.OrderSteps.{ordered_mid, ordered_side, order_is}
use Rattle.band_plan.proofs.orders.ordered.Goals as goal

pub returns-then-side-mid-clause-value : goal.returns-then-side-mid-clause-value
returns-then-side-mid-clause-value c =
    let f1 : FitsSigned w32 c.args.bits = c.ranges.bits in
    let f2 : FitsSigned w64 c.args.delta = c.ranges.delta in
    let f3 : FitsSigned w32 c.mid-mid.result = record { sfits = c.mid-mid.type_inv } in
    let e : c.mid-mid.result ≡ mid_of c.args.bits c.args.delta = simp to_z-of_z at c.mid-mid.ensures.value in
    let s = simp to_z-of_z at c.mid-mid.ensures.side in
    let f4 : FitsSigned w32 (c.args.bits -ℤ c.mid-mid.result) = fits_signed_from_abs w32 (c.args.bits -ℤ c.mid-mid.result) (let b = c.requires.bits in omega (arith, s, b)) in
    let t : int_le (c.args.bits -ℤ c.mid-mid.result) c.mid-mid.result ≡ true = simp to_z-of_z at c.if-side-mid.true in
    simp to_z-of_z (ordered_mid c.args.bits c.args.delta c.mid-mid.result c.args.theta e t)

pub returns-then-side-mid-clause-is : goal.returns-then-side-mid-clause-is
returns-then-side-mid-clause-is c =
    let f1 : FitsSigned w32 c.args.bits = c.ranges.bits in
    let f3 : FitsSigned w32 c.mid-mid.result = record { sfits = c.mid-mid.type_inv } in
    let s : unsigned_abs (c.args.bits -ℤ c.mid-mid.result) ≤ unsigned_abs c.args.bits = simp to_z-of_z at c.mid-mid.ensures.side in
    let m : unsigned_abs c.mid-mid.result ≤ unsigned_abs c.args.bits = simp to_z-of_z at c.mid-mid.ensures.most in
    let f4 : FitsSigned w32 (c.args.bits -ℤ c.mid-mid.result) = fits_signed_from_abs w32 (c.args.bits -ℤ c.mid-mid.result) (let b = c.requires.bits in omega (arith, s, b)) in
    let sum : c.mid-mid.result +ℤ (c.args.bits -ℤ c.mid-mid.result) ≡ c.args.bits = omega (arith, ints) in
    simp to_z-of_z (order_is c.args.bits c.mid-mid.result (c.args.bits -ℤ c.mid-mid.result) false _ sum m s)

pub returns-else-side-mid-clause-value : goal.returns-else-side-mid-clause-value
returns-else-side-mid-clause-value c =
    let f1 : FitsSigned w32 c.args.bits = c.ranges.bits in
    let f2 : FitsSigned w64 c.args.delta = c.ranges.delta in
    let f3 : FitsSigned w32 c.mid-mid.result = record { sfits = c.mid-mid.type_inv } in
    let e : c.mid-mid.result ≡ mid_of c.args.bits c.args.delta = simp to_z-of_z at c.mid-mid.ensures.value in
    let s = simp to_z-of_z at c.mid-mid.ensures.side in
    let f4 : FitsSigned w32 (c.args.bits -ℤ c.mid-mid.result) = fits_signed_from_abs w32 (c.args.bits -ℤ c.mid-mid.result) (let b = c.requires.bits in omega (arith, s, b)) in
    let t : int_le (c.args.bits -ℤ c.mid-mid.result) c.mid-mid.result ≡ false = simp to_z-of_z at c.if-side-mid.false in
    simp to_z-of_z (ordered_side c.args.bits c.args.delta c.mid-mid.result c.args.theta e t)

pub returns-else-side-mid-clause-is : goal.returns-else-side-mid-clause-is
returns-else-side-mid-clause-is c =
    let f1 : FitsSigned w32 c.args.bits = c.ranges.bits in
    let f3 : FitsSigned w32 c.mid-mid.result = record { sfits = c.mid-mid.type_inv } in
    let s : unsigned_abs (c.args.bits -ℤ c.mid-mid.result) ≤ unsigned_abs c.args.bits = simp to_z-of_z at c.mid-mid.ensures.side in
    let m : unsigned_abs c.mid-mid.result ≤ unsigned_abs c.args.bits = simp to_z-of_z at c.mid-mid.ensures.most in
    let f4 : FitsSigned w32 (c.args.bits -ℤ c.mid-mid.result) = fits_signed_from_abs w32 (c.args.bits -ℤ c.mid-mid.result) (let b = c.requires.bits in omega (arith, s, b)) in
    let sum : (c.args.bits -ℤ c.mid-mid.result) +ℤ c.mid-mid.result ≡ c.args.bits = omega (arith, ints) in
    simp to_z-of_z (order_is c.args.bits (c.args.bits -ℤ c.mid-mid.result) c.mid-mid.result true _ sum s m)
