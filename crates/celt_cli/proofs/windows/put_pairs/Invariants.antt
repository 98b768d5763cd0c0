use Rattle.celt_cli.proofs.PutPairs.{Put}
use Rattle.celt_cli.proofs.windows.put_pairs.Given as goal

abbrev pub invariant-loop-k : goal.invariant-loop-k
invariant-loop-k l = Put l.fn.items l.items l.fn.pairs l.pairs l.k
