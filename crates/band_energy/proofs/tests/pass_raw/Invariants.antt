use Rattle.std.proofs.Common.{◌+◌, ◌≤◌}
use Rattle.band_energy.proofs.tests.pass_raw.Given as goal

abbrev pub invariant-loop-k : goal.invariant-loop-k
invariant-loop-k l = l.reader.asked ≤ l.fn.reader.asked + l._k
