use Rattle.mdct_fixed.proofs.MdctLemmas.{IsStarted}
use Rattle.mdct_fixed.proofs.windowing.window_start.Given as goal

-- the first t values and their mirrors are windowed
abbrev pub invariant-loop-t : goal.invariant-loop-t
invariant-loop-t l = IsStarted l.t l.fn.out l.out
