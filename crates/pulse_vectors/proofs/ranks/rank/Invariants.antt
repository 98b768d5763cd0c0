use Rattle.pulse_vectors.proofs.RankSteps.{RankedBy}
use Rattle.pulse_vectors.proofs.ranks.rank.Given as goal

abbrev pub invariant-loop-i : goal.invariant-loop-i
invariant-loop-i l = RankedBy l.y l.i l.behind l.place l.row.numbers l.row.pulses
