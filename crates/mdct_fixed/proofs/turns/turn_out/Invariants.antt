use Rattle.std.proofs.Common.{length}
use Rattle.mdct_fixed.specs.Numbers.{at}
use Rattle.mdct_fixed.proofs.MdctLemmas.{AreOut}
use Rattle.mdct_fixed.proofs.turns.turn_out.Given as goal

-- the first items are put
abbrev pub invariant-loop-k : goal.invariant-loop-k
invariant-loop-k l = AreOut (length l.re) l.k (at l.re l.im) l.out
