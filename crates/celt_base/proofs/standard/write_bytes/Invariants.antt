use Rattle.std.proofs.Common.{length}
use Rattle.celt_base.proofs.Writing.{Wrote}
use Rattle.celt_base.proofs.standard.write_bytes.Given as goal

abbrev pub invariant-loop-rest : goal.invariant-loop-rest
invariant-loop-rest g l = Wrote (g.W.Write.contents l.fn.inner) (g.W.Write.contents l.inner) l.bytes l.rest

abbrev pub decreases-loop-rest : goal.decreases-loop-rest
decreases-loop-rest g l = length l.rest
