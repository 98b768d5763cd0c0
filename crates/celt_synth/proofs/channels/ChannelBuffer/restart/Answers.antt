use Rattle.std.proofs.Common.{refl, ap, ◌∙◌}
use Rattle.fixed_math.specs.Items.{item}
use Rattle.celt_synth.proofs.SignalLemmas.{quiet_is, zero_item}
use Rattle.celt_synth.proofs.channels.ChannelBuffer.restart.Goals as goal

pub returns : goal.returns
returns c = quiet_is c.fill.new.self.items _ (λ p. ap (λ xs. item xs p) (c.fill.ensures.items (λ y h. h)) ∙ zero_item _ p) refl
