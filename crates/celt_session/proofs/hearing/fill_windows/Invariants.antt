use Rattle.celt_session.specs.Hearings.{window_at}
use Rattle.celt_session.proofs.HearingSteps.{Filled}
use Rattle.celt_session.proofs.hearing.fill_windows.Given as goal

abbrev pub invariant-loop-k : goal.invariant-loop-k
invariant-loop-k l = Filled l.kind (window_at l.kind l.samples) l.slots l.k
