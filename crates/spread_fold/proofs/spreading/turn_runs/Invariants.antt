use Rattle.std.proofs.Common.{◌≡◌, ◌*◌, ◌++◌, drop}
use Rattle.spread_fold.specs.Spreading.{spread_runs}
use Rattle.spread_fold.proofs.spreading.turn_runs.Given as goal

-- the first runs are spread
abbrev pub invariant-loop-b : goal.invariant-loop-b
invariant-loop-b l = l.x ≡ spread_runs l.forward l.t l.c l.s l.n l.b l.fn.x ++ drop (l.b * l.n) l.fn.x
