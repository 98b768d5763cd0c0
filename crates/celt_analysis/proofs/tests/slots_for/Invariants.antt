use Rattle.celt_analysis.specs.Batches.{AreWindows}
use Rattle.celt_analysis.proofs.tests.slots_for.Given as goal

abbrev pub invariant-loop-frame : goal.invariant-loop-frame
invariant-loop-frame l = AreWindows l.source.kind l.slots.items
