use Rattle.std.proofs.Common.{arith}
use Rattle.std.specs.Prelude.{FitsSigned}
use Rattle.std.specs.Int.{w64}
use Rattle.std.proofs.lemmas.Int.{ints, to_z-of_z}
use Rattle.band_plan.proofs.ThetaSteps.{timed}
use Rattle.band_plan.proofs.thetas.ask_timed.Goals as goal

pub returns-clause-walked : goal.returns-clause-walked
returns-clause-walked g c =
    let f : FitsSigned w64 c.ask_at-answer.result = record { sfits = c.ask_at-answer.type_inv } in
    let small = c.tell_frac-before.ensures.most in
    let small2 = c.tell_frac-after.ensures.most in
    let few = c.requires.few in
    let count = c.ask_at-answer.ensures.count in
    rw (to_z-of_z w64 c.ask_at-answer.result f)
    (timed c.args.at c.args.question c.ask_at-answer.result c.tell_frac-before.result c.tell_frac-after.result _
    c.tell_frac-before.ensures.value c.tell_frac-after.ensures.value (omega (arith, ints, small, small2, few, count)) c.ask_at-answer.ensures.walked)
