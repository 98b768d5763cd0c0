use Rattle.std.proofs.Common.{◌+◌, ◌-◌, ◌*◌, ◌/◌}
use Rattle.mdct_fixed.specs.Numbers.{at}
use Rattle.mdct_fixed.proofs.JoinLemmas.{IsGoing}
use Rattle.mdct_fixed.proofs.joins.column_4.Given as goal

-- the rows before p are joined
abbrev pub invariant-loop-p : goal.invariant-loop-p
invariant-loop-p l = IsGoing 4 (l.runs.len / 4) (l.runs.from + l.c) l.runs.len l.runs.count (15360 / l.runs.len * l.c) l.p (at l.fn.re l.fn.im) (at l.re l.im)

abbrev pub decreases-loop-p : goal.decreases-loop-p
decreases-loop-p l = l.end - l.p
