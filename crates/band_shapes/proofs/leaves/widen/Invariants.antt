use Rattle.std.proofs.Common.{◌≡◌, ℕ, ◌<◌}
use Rattle.fixed_math.specs.Items.{item}
use Rattle.band_shapes.proofs.leaves.widen.Given as goal

abbrev pub invariant-loop-i : goal.invariant-loop-i
invariant-loop-i l = (p : ℕ) → p < l.i → item l.x p ≡ item l.y p
