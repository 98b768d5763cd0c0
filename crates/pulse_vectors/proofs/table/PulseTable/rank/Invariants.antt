use Rattle.pulse_vectors.proofs.RankSteps.{Ranked}
use Rattle.pulse_vectors.proofs.table.PulseTable.rank.Given as goal

abbrev pub invariant-loop-i : goal.invariant-loop-i
invariant-loop-i l = Ranked l.y l.i l.behind l.place
