use Rattle.std.proofs.Common.{◌≡◌, length}
use Rattle.celt_session.proofs.frame_batch.empty_slots.Given as goal

abbrev pub invariant-loop-i : goal.invariant-loop-i
invariant-loop-i l = length l.slots.items ≡ l.i
