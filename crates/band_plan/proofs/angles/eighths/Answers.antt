use Rattle.std.proofs.Common.{arith}
use Rattle.std.specs.Prelude.{pos, ◌-ℤ◌, FitsSigned}
use Rattle.std.specs.Int.{w32}
use Rattle.std.proofs.lemmas.Int.{ints, to_z-of_z, fits_signed_from_abs}
use Rattle.band_plan.proofs.AngleSteps.{eighths-is}
use Rattle.band_plan.proofs.angles.eighths.Goals as goal

pub returns : goal.returns
returns c =
    let b = c.requires.bits in
    let p = c.requires.price in
    let f1 : FitsSigned w32 c.args.bits = c.ranges.bits in
    let f2 : FitsSigned w32 c.args.price = c.ranges.price in
    let f3 : FitsSigned w32 c.shift.result = record { sfits = c.shift.type_inv } in
    let f4 : FitsSigned w32 c.capacity-capacity.result = record { sfits = c.capacity-capacity.type_inv } in
    let f5 : FitsSigned w32 c.lesser.result = record { sfits = c.lesser.type_inv } in
    let f6 : FitsSigned w32 c.lesser-2.result = record { sfits = c.lesser-2.type_inv } in
    let f7 : FitsSigned w32 (c.args.bits -ℤ c.args.price) = fits_signed_from_abs w32 (c.args.bits -ℤ c.args.price) (omega (arith, ints, b, p)) in
    let f8 : FitsSigned w32 ((c.args.bits -ℤ c.args.price) -ℤ pos 32) = fits_signed_from_abs w32 ((c.args.bits -ℤ c.args.price) -ℤ pos 32) (omega (arith, ints, b, p)) in
    let e1 = simp to_z-of_z at c.shift.ensures.value in
    let e2 = simp to_z-of_z at c.capacity-capacity.ensures.value in
    let e3 = simp to_z-of_z at c.lesser.ensures in
    let e4 = simp to_z-of_z at c.lesser-2.ensures in
    simp to_z-of_z (eighths-is c.args.pair c.args.n c.numbers.result c.args.price c.shift.result c.args.bits c.capacity-capacity.result c.lesser.result c.lesser-2.result c.numbers.ensures.value e1 e2 e3 e4)
