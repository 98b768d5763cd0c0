use Rattle.std.proofs.Common.{◌≡◌}
use Rattle.fixed_math.specs.Items.{item}
use Rattle.celt_analysis.proofs.LaneLemmas.{lane_bits}
use Rattle.celt_analysis.proofs.lanes.eights.Given as goal

abbrev pub invariant-loop-k : goal.invariant-loop-k
invariant-loop-k l = l.sum ≡ lane_bits (item l.s) l.i l.j l.k
