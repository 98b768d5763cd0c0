use Rattle.bit_allocation.proofs.StereoSteps.{dual_unasked, dual_asked, first_none, second_none, both_some}
use Rattle.bit_allocation.proofs.answering.ask_dual.Goals.{then-intensity-eq0-via-then-intensity-eq0, then-intensity-eq0-via-else-intensity-eq0+then-plan-eq0}
use Rattle.bit_allocation.proofs.answering.ask_dual.Goals as goal

pub returns-then-intensity-eq0-clause-walked : goal.returns-then-intensity-eq0-clause-walked
returns-then-intensity-eq0-clause-walked g c =
    dual_unasked c.args.plan.now c.args.intensity
    (elim c.then-intensity-eq0.branch [
      | then-intensity-eq0-via-then-intensity-eq0 w ↦ first_none c.args.intensity c.args.plan.now.reserves.dual w.if-intensity-eq0.true
      | then-intensity-eq0-via-else-intensity-eq0+then-plan-eq0 w ↦ second_none c.args.intensity c.args.plan.now.reserves.dual w.if-intensity-eq0.false w.if-plan-eq0.true
    ])

pub returns-clause-walked : goal.returns-clause-walked
returns-clause-walked g c =
    dual_asked c.args.plan.now c.args.intensity (both_some c.args.intensity c.args.plan.now.reserves.dual c.if-intensity-eq0.false c.if-plan-eq0.false) c.ask_bit.ensures.walked
