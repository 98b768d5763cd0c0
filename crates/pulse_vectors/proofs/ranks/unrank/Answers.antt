use Rattle.std.proofs.Common.{arith}
use Rattle.pulse_vectors.proofs.RankSteps.{unranked-end, stands-full}
use Rattle.pulse_vectors.proofs.ranks.unrank.Goals as goal

pub returns-clause-stands : goal.returns-clause-stands
returns-clause-stands c = unranked-end _ _ _ _ _ _ _ (omega arith) (omega arith) c.loop-x.invariant.unranked

pub returns-clause-pulses : goal.returns-clause-pulses
returns-clause-pulses c = stands-full _ _ _ _ (unranked-end _ _ _ _ _ _ _ (omega arith) (omega arith) c.loop-x.invariant.unranked)
