use Rattle.std.proofs.Common.{◌≤◌}
use Rattle.rate_reservoir.specs.Noted.{frames_noted}
use Rattle.rate_reservoir.proofs.tests.first_break.Given as goal

abbrev pub invariant-loop-len : goal.invariant-loop-len
invariant-loop-len l = frames_noted l.budget ≤ l.len-index
