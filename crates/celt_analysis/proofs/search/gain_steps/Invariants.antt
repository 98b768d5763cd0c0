use Rattle.std.proofs.Common.{◌≡◌, ◌≤◌}
use Rattle.celt_analysis.specs.Pitch.{gain_steps}
use Rattle.celt_analysis.proofs.search.gain_steps.Given as goal

abbrev pub invariant-loop-k : goal.invariant-loop-k
invariant-loop-k l = (gain_steps l.c l.e l.k ≡ gain_steps l.c l.e 8) × (l.k ≤ 8)

abbrev pub decreases-loop-k : goal.decreases-loop-k
decreases-loop-k l = l.k
