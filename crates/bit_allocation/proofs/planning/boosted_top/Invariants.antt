use Rattle.std.proofs.Common.{◌≡◌, ◌≤◌}
use Rattle.bit_allocation.specs.Plans.{boosted_top}
use Rattle.bit_allocation.proofs.planning.boosted_top.Given as goal

-- no band from l.band on has a boost
abbrev pub invariant-loop-band : goal.invariant-loop-band
invariant-loop-band l = record {
  inside : l.band ≤ l.request.kind.end;
  same : boosted_top l.request l.band ≡ boosted_top l.request l.request.kind.end;
}

abbrev pub decreases-loop-band : goal.decreases-loop-band
decreases-loop-band l = l.band
