use Rattle.std.proofs.Common.{◌≤◌}
use Rattle.range_coder.proofs.writer_tests.written.Given as goal

abbrev pub invariant-loop-k : goal.invariant-loop-k
invariant-loop-k l = l.writer.asked ≤ l.k
