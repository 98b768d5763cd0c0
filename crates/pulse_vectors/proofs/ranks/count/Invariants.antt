use Rattle.std.proofs.Common.{◌≡◌}
use Rattle.pulse_vectors.proofs.ranks.count.Given as goal

abbrev pub invariant-loop : goal.invariant-loop
invariant-loop l = (l.row.numbers ≡ l.counter) × (l.row.pulses ≡ l.k)
