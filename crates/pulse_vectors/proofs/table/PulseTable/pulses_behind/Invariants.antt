use Rattle.std.proofs.Common.{◌+◌, ◌≤◌, ◌<◌}
use Rattle.pulse_vectors.specs.Rows.{count_below}
use Rattle.pulse_vectors.proofs.table.PulseTable.pulses_behind.Given as goal

abbrev pub invariant-loop-behind : goal.invariant-loop-behind
invariant-loop-behind l = (l.behind ≤ l.most) × (l.index < count_below l.numbers (l.behind + 1))

abbrev pub decreases-loop-behind : goal.decreases-loop-behind
decreases-loop-behind l = l.behind
