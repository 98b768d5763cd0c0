use Rattle.std.proofs.Common.{◌≡◌, ℕ, ◌<◌, false}
use Rattle.pulse_search.specs.Pulses.{is_better}
use Rattle.pulse_search.proofs.pulses.next_wide.Given as goal

abbrev pub invariant-loop-i : goal.invariant-loop-i
invariant-loop-i l = (i : ℕ) → l.place < i → i < l.i → is_better l.sizes l.pulses i l.place ≡ false
