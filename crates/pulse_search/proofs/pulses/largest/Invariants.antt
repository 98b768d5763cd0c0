use Rattle.std.proofs.Common.{ℕ, ◌<◌, ◌≤◌, ◌^◌, get_or}
use Rattle.pulse_search.proofs.pulses.largest.Given as goal

abbrev pub invariant-loop-i : goal.invariant-loop-i
invariant-loop-i l = record {
  bound : (k d : ℕ) → k < l.i → get_or l.sizes k d ≤ l.most;
  size : l.most < 2 ^ 20;
}
