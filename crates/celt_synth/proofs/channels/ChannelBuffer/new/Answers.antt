use Rattle.std.proofs.Common.{refl}
use Rattle.celt_synth.proofs.SignalLemmas.{quiet_is}
use Rattle.celt_synth.proofs.channels.ChannelBuffer.new.Goals as goal

pub returns-in-Ok : goal.returns-in-Ok
returns-in-Ok c = quiet_is c.in-Ok.values.items _ c.in-Ok.ensures.zeros refl
