use Rattle.std.proofs.Common.{◌≡◌, ◌<◌, ◌^◌}
use Rattle.std.specs.Prelude.{unsigned_abs, slice_set, All, IsTrue}
use Rattle.spread_fold.specs.Calm.{IsCalm}
use Rattle.spread_fold.specs.Spreading.{turned_down}
use Rattle.spread_fold.proofs.neighbours.neighbours_down.Given as goal

-- with the carried item put back the first i pairs are left
abbrev pub invariant-loop-i : goal.invariant-loop-i
invariant-loop-i l = record {
  left : turned_down 1 l.c l.s l.i (slice_set l.x l.i l.carried) ≡ turned_down 1 l.c l.s l.k l.fn.x;
  carried : unsigned_abs l.carried < 2 ^ 20;
  small : All (λ v. unsigned_abs v < 2 ^ 20) l.x;
  calm : IsTrue l.calm → IsCalm l.i l.c l.s (slice_set l.x l.i l.carried);
}
