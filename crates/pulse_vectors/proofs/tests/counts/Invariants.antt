use Rattle.std.proofs.Common.{◌≡◌}
use Rattle.pulse_vectors.proofs.tests.counts.Given as goal

abbrev pub invariant-loop : goal.invariant-loop
invariant-loop g l = (l.row.numbers ≡ l.counter) × (l.row.pulses ≡ 3)
