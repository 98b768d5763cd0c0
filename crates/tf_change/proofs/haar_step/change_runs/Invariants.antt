use Rattle.tf_change.proofs.HaarLemmas.{RunsChanged}
use Rattle.tf_change.proofs.haar_step.change_runs.Given as goal

-- the first columns are changed
abbrev pub invariant-loop-k : goal.invariant-loop-k
invariant-loop-k l = RunsChanged l.stride l.base l.k l.fn.x l.x
