use Rattle.std.proofs.Common.{◌≡◌, drop}
use Rattle.std.specs.List.{fold}
use Rattle.celt_cli.specs.GenSums.{summed}
use Rattle.celt_cli.proofs.tally.sum_over.Given as goal

-- the rest is summed as all are
abbrev pub invariant-loop-i : goal.invariant-loop-i
invariant-loop-i l = fold summed l.next (drop l.i l.fn.samples) ≡ fold summed l.fn.sum l.fn.samples
