use Rattle.std.proofs.Common.{◌-◌}
use Rattle.pulse_vectors.proofs.CostSteps.{Halving}
use Rattle.pulse_vectors.proofs.table.PulseTable.index_below.Given as goal

abbrev pub invariant-loop-low : goal.invariant-loop-low
invariant-loop-low l = Halving l.fn.numbers l.fn.bits l.fn.last l.low l.high

abbrev pub decreases-loop-low : goal.decreases-loop-low
decreases-loop-low l = l.high - l.low
