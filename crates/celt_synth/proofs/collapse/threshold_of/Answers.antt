use Rattle.std.proofs.Common.{ap, ◌∙◌}
use Rattle.fixed_math.specs.Powers.{ex}
use Rattle.celt_synth.proofs.CollapseLemmas.{threshold_is}
use Rattle.celt_synth.proofs.collapse.threshold_of.Goals as goal

pub returns-clause-value : goal.returns-clause-value
returns-clause-value c = threshold_is c.args.n c.args.pulses c.power_down.result (c.power_down.ensures.value ∙ ap ex c.from.ensures)
