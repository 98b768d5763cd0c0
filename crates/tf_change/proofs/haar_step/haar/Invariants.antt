use Rattle.tf_change.proofs.HaarLemmas.{PairsChanged}
use Rattle.tf_change.proofs.haar_step.haar.Given as goal

-- the first pairs of runs are changed
abbrev pub invariant-loop-j : goal.invariant-loop-j
invariant-loop-j l = PairsChanged l.stride l.j l.fn.x l.x
