use Rattle.std.proofs.Common.{◌≡◌, ◌<◌, ◌^◌}
use Rattle.std.specs.Prelude.{unsigned_abs, All, IsTrue}
use Rattle.spread_fold.specs.Calm.{IsCalm}
use Rattle.spread_fold.specs.Spreading.{turned_down}
use Rattle.spread_fold.proofs.spreading.turn_down.Given as goal

-- the first i pairs are left
abbrev pub invariant-loop-i : goal.invariant-loop-i
invariant-loop-i l = record {
  left : turned_down l.t l.c l.s l.i l.x ≡ turned_down l.t l.c l.s l.k l.fn.x;
  small : All (λ v. unsigned_abs v < 2 ^ 20) l.x;
  calm : IsTrue l.calm → IsCalm l.i l.c l.s l.x;
}
