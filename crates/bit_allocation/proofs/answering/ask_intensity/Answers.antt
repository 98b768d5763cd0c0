use Rattle.std.proofs.Common.{◌+◌, ◌∙◌, ap, rules}
use Rattle.std.specs.Prelude.{unsigned_abs, FitsSigned}
use Rattle.std.specs.Int.{w64}
use Rattle.std.proofs.lemmas.Int.{to_z-of_z}
use Rattle.bit_allocation.proofs.StereoSteps.{intensity_none, intensity_asked, below_raised}
use Rattle.bit_allocation.proofs.answering.ask_intensity.Goals as goal

pub returns-then-plan-eq0-clause-walked : goal.returns-then-plan-eq0-clause-walked
returns-then-plan-eq0-clause-walked g c = intensity_none c.args.plan.now c.args.coded c.if-plan-eq0.true

pub returns-clause-walked : goal.returns-clause-walked
returns-clause-walked g c =
    let f : FitsSigned w64 c.ask_at.result = search rules in
    intensity_asked c.args.plan.now c.args.coded _ c.ask_at.result c.if-plan-eq0.false
    (ap unsigned_abs (to_z-of_z w64 c.ask_at.result f) ∙ below_raised (c.args.coded + 1) c.ask_at.result c.ask_at.ensures.is_answer)
    c.ask_at.ensures.walked
