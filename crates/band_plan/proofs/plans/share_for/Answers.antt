use Rattle.std.proofs.Common.{◌≡◌, arith}
use Rattle.std.specs.Prelude.{pos, ◌-ℤ◌, FitsSigned}
use Rattle.std.specs.Int.{w32}
use Rattle.std.proofs.lemmas.Int.{to_z-of_z, fits_signed_from_abs}
use Rattle.band_plan.specs.Plans.{left_of}
use Rattle.band_plan.proofs.PlanSteps.{amount_none, share_is, amount_at_left}
use Rattle.band_plan.proofs.plans.share_for.Goals as goal

pub returns-then-band-frame-clause-value : goal.returns-then-band-frame-clause-value
returns-then-band-frame-clause-value c =
    let s = c.left_at-left.ensures.size in
    let f2 : FitsSigned w32 c.left_at-left.result.left = fits_signed_from_abs w32 c.left_at-left.result.left (omega (arith, s)) in
    let e : c.left_at-left.result.left ≡ left_of c.args.frame.total c.args.now = c.left_at-left.ensures.value in
    simp to_z-of_z (share_is c.args.frame.allocation.now c.args.band (left_of c.args.frame.total c.args.now) (c.args.running.balance -ℤ pos c.args.now) (pos 0) c.left_at-left.result.left e (amount_none c.args.frame.allocation.now c.args.band _ _ c.if-band-frame.true))

pub returns-clause-value : goal.returns-clause-value
returns-clause-value c =
    let s = c.left_at-left.ensures.size in
    let f2 : FitsSigned w32 c.left_at-left.result.left = fits_signed_from_abs w32 c.left_at-left.result.left (omega (arith, s)) in
    let f3 : FitsSigned w32 c.portion.result = record { sfits = c.portion.type_inv } in
    let f4 : FitsSigned w32 c.bounded.result = record { sfits = c.bounded.type_inv } in
    let e : c.left_at-left.result.left ≡ left_of c.args.frame.total c.args.now = c.left_at-left.ensures.value in
    let b = simp to_z-of_z at c.bounded.ensures.value in
    simp to_z-of_z (share_is c.args.frame.allocation.now c.args.band (left_of c.args.frame.total c.args.now) (c.args.running.balance -ℤ pos c.args.now) c.bounded.result c.left_at-left.result.left e
    (amount_at_left c.args.frame.allocation.now c.args.band (left_of c.args.frame.total c.args.now) c.left_at-left.result.left (c.args.running.balance -ℤ pos c.args.now) c.portion.result c.bounded.result e c.if-band-frame.false c.portion.ensures b))
