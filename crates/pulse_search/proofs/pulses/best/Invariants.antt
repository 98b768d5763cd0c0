use Rattle.std.proofs.Common.{◌≡◌, ◌-◌, ◌<◌, ◌≤◌, true, length}
use Rattle.pulse_search.specs.Pulses.{is_better, IsBest}
use Rattle.pulse_search.proofs.pulses.best.Given as goal

-- the place is the best of those before next, and next is better
abbrev pub invariant-loop-next : goal.invariant-loop-next
invariant-loop-next l = record {
  high : l.next ≤ length l.sizes;
  place : IsBest l.sizes l.pulses l.next l.place;
  better : l.next < length l.sizes → is_better l.sizes l.pulses l.next l.place ≡ true;
}

abbrev pub decreases-loop-next : goal.decreases-loop-next
decreases-loop-next l = length l.sizes - l.next
