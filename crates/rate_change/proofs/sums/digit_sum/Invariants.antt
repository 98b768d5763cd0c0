use Rattle.std.proofs.Common.{◌≡◌, ◌*◌, ◌≤◌}
use Rattle.std.specs.Prelude.{unsigned_abs}
use Rattle.rate_change.specs.Resampling.{first_sum, weighted}
use Rattle.rate_change.proofs.sums.digit_sum.Given as goal

abbrev pub invariant-loop-t : goal.invariant-loop-t
invariant-loop-t l = (l.sum ≡ first_sum (weighted l.digits l.window) l.t) × (unsigned_abs l.sum ≤ l.t * 67076096)
