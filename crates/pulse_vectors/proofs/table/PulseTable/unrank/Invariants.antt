use Rattle.std.proofs.Common.{◌≤◌, ◌-◌, length}
use Rattle.pulse_vectors.proofs.RankSteps.{Writing}
use Rattle.pulse_vectors.proofs.table.PulseTable.unrank.Given as goal

abbrev pub invariant-loop-left : goal.invariant-loop-left
invariant-loop-left l = Writing (length l.fn.y) l.fn.pulses l.fn.index l.y (length l.fn.y - l.behind) l.left l.place × (l.behind ≤ length l.fn.y)

abbrev pub decreases-loop-left : goal.decreases-loop-left
decreases-loop-left l = l.behind
