use Rattle.std.proofs.Common.{◌-◌, length}
use Rattle.celt_session.proofs.EncoderWorkSteps.{Encoding}
use Rattle.celt_session.proofs.encoder_work.encode_slots.Given as goal

abbrev pub invariant-loop-made : goal.invariant-loop-made
invariant-loop-made l = Encoding l.fn.encoder l.encoder l.slots l.bytes l.made l.out

abbrev pub decreases-loop-made : goal.decreases-loop-made
decreases-loop-made l = length l.slots - l.made
