use Rattle.std.proofs.Common.{◌*◌, ap, arith}
use Rattle.celt_synth.proofs.CollapseLemmas.{decay_three, decay_else}
use Rattle.celt_synth.proofs.collapse.decay_of.Goals as goal

pub returns-then-lm-eq3 : goal.returns-then-lm-eq3
returns-then-lm-eq3 c = decay_three c.args.lm c.args.d _ (omega (arith, c.if-lm-eq3.true)) (ap (λ x. 2 * x) c.power_down-r.ensures.value)

pub returns-else-lm-eq3 : goal.returns-else-lm-eq3
returns-else-lm-eq3 c = decay_else c.args.lm c.args.d _ (λ e. c.if-lm-eq3.false e) (ap (λ x. 2 * x) c.power_down-r.ensures.value)
