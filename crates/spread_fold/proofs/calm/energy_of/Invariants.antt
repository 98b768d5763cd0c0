use Rattle.fixed_math.specs.Items.{item}
use Rattle.spread_fold.proofs.StereoLemmas.{Summed}
use Rattle.spread_fold.proofs.calm.energy_of.Given as goal

-- the first squares are added
abbrev pub invariant-loop-i : goal.invariant-loop-i
invariant-loop-i l = Summed l.i l.sum (item l.x)
