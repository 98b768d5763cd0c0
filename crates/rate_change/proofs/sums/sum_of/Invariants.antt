use Rattle.std.proofs.Common.{◌≡◌, ◌*◌, ◌^◌, ◌≤◌}
use Rattle.std.specs.Prelude.{unsigned_abs}
use Rattle.rate_change.specs.Resampling.{first_sum, in_window}
use Rattle.rate_change.proofs.sums.sum_of.Given as goal

abbrev pub invariant-loop-t : goal.invariant-loop-t
invariant-loop-t l = (l.sum ≡ first_sum (in_window l.weights) l.t) × (unsigned_abs l.sum ≤ l.t * 2 ^ 34)
