use Rattle.mdct_fixed.proofs.MdctLemmas.{IsEnded}
use Rattle.mdct_fixed.proofs.windowing.window_end.Given as goal

-- t values before the mirror and their mirrors are windowed
abbrev pub invariant-loop-t : goal.invariant-loop-t
invariant-loop-t l = IsEnded l.n l.t l.fn.out l.out
