use Rattle.std.proofs.Common.{◌≡◌, ℕ, ◌+◌, ◌<◌, ◌≤◌, true, false}
use Rattle.pulse_search.specs.Angles.{is_under}
use Rattle.pulse_search.proofs.angles.last_under.Given as goal

-- low is under the ratio, and what is more than left above it is not
abbrev pub invariant-loop-left : goal.invariant-loop-left
invariant-loop-left l = record {
  range : l.low + l.left ≤ 3840;
  here : is_under l.m l.s l.low ≡ true;
  above : (b : ℕ) → l.low + l.left < b → b ≤ 3840 → is_under l.m l.s b ≡ false;
}

abbrev pub decreases-loop-left : goal.decreases-loop-left
decreases-loop-left l = l.left
