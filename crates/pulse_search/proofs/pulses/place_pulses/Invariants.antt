use Rattle.std.proofs.Common.{◌≡◌}
use Rattle.pulse_search.specs.Pulses.{dot, pulses_by}
use Rattle.pulse_search.proofs.pulses.place_pulses.Given as goal

-- so many pulses are placed, and the sums are theirs
abbrev pub invariant-loop : goal.invariant-loop
invariant-loop l = record {
  pulses : l.pulses ≡ pulses_by l.sizes l.counter;
  correlation : l.sums.correlation ≡ dot l.sizes l.pulses;
  energy : l.sums.energy ≡ dot l.pulses l.pulses;
}
