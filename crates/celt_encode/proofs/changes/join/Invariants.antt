use Rattle.celt_encode.proofs.ChangeSteps.{Joining}
use Rattle.celt_encode.proofs.changes.join.Given as goal

abbrev pub invariant-loop-i : goal.invariant-loop-i
invariant-loop-i l = Joining l.fn.x l.x l.fn.g.count l.fn.g.stride l.now.count l.now.stride l.i
