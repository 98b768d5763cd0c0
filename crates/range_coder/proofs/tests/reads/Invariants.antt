use Rattle.std.proofs.Common.{◌≤◌}
use Rattle.range_coder.proofs.tests.reads.Given as goal

abbrev pub invariant-loop-k : goal.invariant-loop-k
invariant-loop-k l = l.reader.asked ≤ l.k
