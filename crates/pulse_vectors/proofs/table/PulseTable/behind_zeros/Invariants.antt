use Rattle.pulse_vectors.proofs.RankSteps.{Skipping}
use Rattle.pulse_vectors.proofs.table.PulseTable.behind_zeros.Given as goal

abbrev pub invariant-loop-left : goal.invariant-loop-left
invariant-loop-left l = Skipping l.numbers l.pulses l.index l.left l.place

abbrev pub decreases-loop-left : goal.decreases-loop-left
decreases-loop-left l = l.left
