use Rattle.std.proofs.Common.{◌≤◌}
use Rattle.range_coder.proofs.tests.follows.Given as goal

abbrev pub invariant-loop-row : goal.invariant-loop-row
invariant-loop-row l = l.reader.asked ≤ l.row-index
