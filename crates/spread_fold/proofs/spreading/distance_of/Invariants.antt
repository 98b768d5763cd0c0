use Rattle.std.proofs.Common.{◌≡◌, ◌≤◌, ◌-◌}
use Rattle.fixed_math.specs.Search.{first_from}
use Rattle.spread_fold.specs.Spreading.{is_far}
use Rattle.spread_fold.proofs.spreading.distance_of.Given as goal

-- none of the numbers before passes
abbrev pub invariant-loop-t : goal.invariant-loop-t
invariant-loop-t l = record {
  same : first_from (is_far l.n l.blocks) (177 - l.t) l.t ≡ first_from (is_far l.n l.blocks) 176 1;
  some : 1 ≤ l.t;
  few : l.t ≤ 176;
}

abbrev pub decreases-loop-t : goal.decreases-loop-t
decreases-loop-t l = 177 - l.t
