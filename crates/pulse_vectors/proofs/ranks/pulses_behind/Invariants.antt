use Rattle.std.proofs.Common.{◌≡◌, ◌+◌, ◌-◌, ◌≤◌}
use Rattle.pulse_vectors.specs.Rows.{count_below}
use Rattle.pulse_vectors.proofs.ranks.pulses_behind.Given as goal

abbrev pub invariant-loop-place : goal.invariant-loop-place
invariant-loop-place l = (l.behind ≤ l.most) × (l.fn.index ≡ count_below l.row.numbers l.behind + l.place)

abbrev pub decreases-loop-place : goal.decreases-loop-place
decreases-loop-place l = l.most - l.behind
