use Rattle.std.proofs.Common.{◌/◌}
use Rattle.mdct_fixed.specs.Numbers.{at}
use Rattle.mdct_fixed.proofs.JoinLemmas.{IsPartJoined}
use Rattle.mdct_fixed.proofs.joins.columns_3.Given as goal

-- the first columns are joined
abbrev pub invariant-loop-c : goal.invariant-loop-c
invariant-loop-c l = IsPartJoined 3 (l.runs.len / 3) l.runs.from l.runs.len l.runs.count l.c (at l.fn.re l.fn.im) (at l.re l.im)
