use Rattle.std.proofs.Common.{◌≡◌, ◌≤◌, ◌*◌, ◌^◌}
use Rattle.fixed_math.specs.Items.{item}
use Rattle.celt_analysis.specs.Sums.{magnitude}
use Rattle.celt_analysis.proofs.estimate.magnitude_from.Given as goal

abbrev pub invariant-loop-i : goal.invariant-loop-i
invariant-loop-i l = (l.sum ≡ magnitude (item l.d) l.a l.i) × (l.sum ≤ l.i * 2 ^ 15)
