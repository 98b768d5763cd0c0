use Rattle.std.proofs.Common.{◌≡◌}
use Rattle.spread_fold.specs.Spreading.{turned_up}
use Rattle.spread_fold.proofs.spreading.turn_up.Given as goal

-- the first pairs are turned
abbrev pub invariant-loop-i : goal.invariant-loop-i
invariant-loop-i l = l.x ≡ turned_up l.t l.c l.s l.i l.fn.x
