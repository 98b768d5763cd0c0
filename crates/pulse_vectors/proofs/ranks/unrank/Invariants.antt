use Rattle.std.proofs.Common.{length}
use Rattle.pulse_vectors.proofs.RankSteps.{UnrankedBy}
use Rattle.pulse_vectors.proofs.ranks.unrank.Given as goal

abbrev pub invariant-loop-x : goal.invariant-loop-x
invariant-loop-x l = UnrankedBy (length l.fn.y) l.fn.pulses l.fn.index l.y l.x-index l.left l.place l.row.numbers l.row.pulses
