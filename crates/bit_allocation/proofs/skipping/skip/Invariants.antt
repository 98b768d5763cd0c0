use Rattle.bit_allocation.proofs.SkipSteps.{Skipping}
use Rattle.bit_allocation.proofs.skipping.skip.Given as goal

abbrev pub invariant-loop-coded : goal.invariant-loop-coded
invariant-loop-coded g l = Skipping g.C.Coder.calls g.H.Chooser.calls l.plan l.coded l.used l.bits l.fn.coder l.fn.chooser l.coder l.chooser

abbrev pub decreases-loop-coded : goal.decreases-loop-coded
decreases-loop-coded g l = l.coded
