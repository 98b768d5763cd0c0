use Rattle.celt_session.proofs.EncoderWorkSteps.{Emptied}
use Rattle.celt_session.proofs.encoder_work.empty_slots.Given as goal

abbrev pub invariant-loop-i : goal.invariant-loop-i
invariant-loop-i l = Emptied l.kind l.slots.items l.i
