use Rattle.std.proofs.Common.{length}
use Rattle.mdct_fixed.proofs.ForwardLemmas.{AreFolded}
use Rattle.mdct_fixed.proofs.folding.fold_edges.Given as goal

-- the first t items of both edges are put
abbrev pub invariant-loop-t : goal.invariant-loop-t
invariant-loop-t l = AreFolded (length l.fn.out) l.t l.values l.fn.out l.out
