use Rattle.spread_fold.proofs.StereoLemmas.{Separated}
use Rattle.spread_fold.proofs.stereo.separate.Given as goal

-- the first items are separated
abbrev pub invariant-loop-i : goal.invariant-loop-i
invariant-loop-i l = Separated l.i l.mid l.fn.x l.fn.y l.x l.y
