use Rattle.std.proofs.Common.{◌≡◌, ℕ, ◌^◌, ◌<◌, ◌≤◌}
use Rattle.std.specs.Prelude.{length, unsigned_abs, pos, ◌-ℤ◌}
use Rattle.fixed_math.specs.Items.{item}
use Rattle.rate_change.specs.Resampling.{weight}
use Rattle.rate_change.proofs.sums.weights_of.Given as goal

abbrev pub invariant-loop-t : goal.invariant-loop-t
invariant-loop-t l = (length l.weights ≡ 32) × ((p : ℕ) → p < l.t → (item l.weights p ≡ weight l.fn.up l.fn.f (pos p -ℤ pos 15)) × (unsigned_abs (item l.weights p) ≤ 2 ^ 34))
