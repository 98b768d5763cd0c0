use Rattle.std.proofs.Common.{◌+◌, ◌*◌, ◌^◌, ◌<◌, ◌≤◌}
use Rattle.range_coder.proofs.writer_tests.carried.Given as goal

abbrev pub invariant-loop-k : goal.invariant-loop-k
invariant-loop-k l = (2 ^ 23 < l.sender.width) × (8 * l.sender.sent + l.sender.raw ≤ 40 * l.k)
