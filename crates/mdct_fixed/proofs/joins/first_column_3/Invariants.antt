use Rattle.std.proofs.Common.{◌+◌, ◌-◌, ◌/◌}
use Rattle.mdct_fixed.specs.Numbers.{at}
use Rattle.mdct_fixed.proofs.JoinLemmas.{IsGoing}
use Rattle.mdct_fixed.proofs.joins.first_column_3.Given as goal

-- the rows before p are joined
abbrev pub invariant-loop-p : goal.invariant-loop-p
invariant-loop-p l = IsGoing 3 (l.runs.len / 3) (l.runs.from + 0) l.runs.len l.runs.count 0 l.p (at l.fn.re l.fn.im) (at l.re l.im)

abbrev pub decreases-loop-p : goal.decreases-loop-p
decreases-loop-p l = l.end - l.p
