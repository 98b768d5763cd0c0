use Rattle.std.proofs.Common.{◌/◌}
use Rattle.mdct_fixed.specs.Numbers.{at}
use Rattle.mdct_fixed.proofs.JoinLemmas.{IsPartJoined}
use Rattle.mdct_fixed.proofs.joins.columns_2.Given as goal

-- the first columns are joined
abbrev pub invariant-loop-c : goal.invariant-loop-c
invariant-loop-c l = IsPartJoined 2 (l.runs.len / 2) l.runs.from l.runs.len l.runs.count l.c (at l.fn.re l.fn.im) (at l.re l.im)
