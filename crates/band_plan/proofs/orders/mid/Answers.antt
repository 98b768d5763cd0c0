use Rattle.std.proofs.Common.{◌≡◌, arith, inl, inr}
use Rattle.std.specs.Prelude.{pos, ◌-ℤ◌, ◌≤ℤ◌, ◌<ℤ◌, int_div, FitsSigned}
use Rattle.std.specs.Int.{w64, w32}
use Rattle.std.proofs.lemmas.Int.{ints, to_z-of_z, fits_signed_from_abs}
use Rattle.band_plan.proofs.OrderSteps.{mid_none, mid_half, mid_all}
use Rattle.band_plan.proofs.orders.mid.Goals as goal

pub returns-then-half-le0-clause-value : goal.returns-then-half-le0-clause-value
returns-then-half-le0-clause-value c =
    let f1 : FitsSigned w32 c.args.bits = c.ranges.bits in
    let f2 : FitsSigned w64 c.args.delta = c.ranges.delta in
    let e : c.half_above-half.result ≡ int_div (c.args.bits -ℤ c.args.delta) (pos 2) = simp to_z-of_z at c.half_above-half.ensures.value in
    let l : c.half_above-half.result ≤ℤ pos 0 = grind (arith, ints, c.if-half-le0.true, c.half_above-half.ensures.size) in
    mid_none c.args.bits c.args.delta c.half_above-half.result e (inr l)

pub returns-then-bits-le0-clause-value : goal.returns-then-bits-le0-clause-value
returns-then-bits-le0-clause-value c =
    let f1 : FitsSigned w32 c.args.bits = c.ranges.bits in
    let f2 : FitsSigned w64 c.args.delta = c.ranges.delta in
    let e : c.half_above-half.result ≡ int_div (c.args.bits -ℤ c.args.delta) (pos 2) = simp to_z-of_z at c.half_above-half.ensures.value in
    let l : c.args.bits ≤ℤ pos 0 = grind (arith, ints, c.if-bits-le0.true, c.requires.bits) in
    mid_none c.args.bits c.args.delta c.half_above-half.result e (inl l)

pub returns-then-half-from-clause-value : goal.returns-then-half-from-clause-value
returns-then-half-from-clause-value c =
    let f1 : FitsSigned w32 c.args.bits = c.ranges.bits in
    let f2 : FitsSigned w64 c.args.delta = c.ranges.delta in
    let f3 : FitsSigned w64 c.half_above-half.result = record { sfits = c.half_above-half.type_inv } in
    let e : c.half_above-half.result ≡ int_div (c.args.bits -ℤ c.args.delta) (pos 2) = simp to_z-of_z at c.half_above-half.ensures.value in
    let f : c.from.result ≡ c.args.bits = simp to_z-of_z at c.from.ensures in
    let b = c.requires.bits in
    let l : c.half_above-half.result <ℤ c.args.bits = grind (arith, ints, c.if-half-from.true, f, c.half_above-half.ensures.size, b) in
    let h : pos 0 <ℤ c.half_above-half.result = grind (arith, ints, c.if-half-le0.false, c.half_above-half.ensures.size) in
    let f4 : FitsSigned w32 c.half_above-half.result = fits_signed_from_abs w32 c.half_above-half.result (omega (arith, ints, l, h, b)) in
    simp to_z-of_z (mid_half c.args.bits c.args.delta c.half_above-half.result e h l)

pub returns-clause-value : goal.returns-clause-value
returns-clause-value c =
    let f1 : FitsSigned w32 c.args.bits = c.ranges.bits in
    let f2 : FitsSigned w64 c.args.delta = c.ranges.delta in
    let e : c.half_above-half.result ≡ int_div (c.args.bits -ℤ c.args.delta) (pos 2) = simp to_z-of_z at c.half_above-half.ensures.value in
    let f : c.from.result ≡ c.args.bits = simp to_z-of_z at c.from.ensures in
    let b = c.requires.bits in
    let l : c.args.bits ≤ℤ c.half_above-half.result = grind (arith, ints, c.if-half-from.false, f, c.half_above-half.ensures.size, b) in
    let h : pos 0 <ℤ c.args.bits = grind (arith, ints, c.if-bits-le0.false, b) in
    simp to_z-of_z (mid_all c.args.bits c.args.delta c.half_above-half.result e h l)
