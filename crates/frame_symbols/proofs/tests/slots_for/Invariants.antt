use Rattle.frame_symbols.specs.Batches.{PartsInside}
use Rattle.frame_symbols.proofs.tests.slots_for.Given as goal

abbrev pub invariant-loop-k : goal.invariant-loop-k
invariant-loop-k l = PartsInside l.bytes l.slots.items
