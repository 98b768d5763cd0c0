use Rattle.std.proofs.Common.{length}
use Rattle.mdct_fixed.specs.Numbers.{at}
use Rattle.mdct_fixed.proofs.ForwardLemmas.{AreBack}
use Rattle.mdct_fixed.proofs.forward_transform.turn_back.Given as goal

-- the first items are put
abbrev pub invariant-loop-k : goal.invariant-loop-k
invariant-loop-k l = AreBack (length l.re) l.k (at l.re l.im) l.out
