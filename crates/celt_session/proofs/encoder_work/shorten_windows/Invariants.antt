use Rattle.celt_session.proofs.EncoderWorkSteps.{Shortened}
use Rattle.celt_session.proofs.encoder_work.shorten_windows.Given as goal

abbrev pub invariant-loop-k : goal.invariant-loop-k
invariant-loop-k l = Shortened l.kind l.slots l.k
