use Rattle.std.proofs.Common.{◌≡◌, ◌<◌, ◌^◌}
use Rattle.std.specs.Prelude.{unsigned_abs, slice_set, All}
use Rattle.spread_fold.specs.Spreading.{turned_up}
use Rattle.spread_fold.proofs.neighbours.neighbours_up.Given as goal

-- with the carried item put back the first i pairs are turned
abbrev pub invariant-loop-i : goal.invariant-loop-i
invariant-loop-i l = record {
  turned : slice_set l.x l.i l.carried ≡ turned_up 1 l.c l.s l.i l.fn.x;
  carried : unsigned_abs l.carried < 2 ^ 20;
  small : All (λ v. unsigned_abs v < 2 ^ 20) l.x;
}
