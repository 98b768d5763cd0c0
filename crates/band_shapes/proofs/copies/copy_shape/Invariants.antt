use Rattle.std.proofs.Common.{◌≡◌, ℕ, ◌<◌}
use Rattle.std.specs.Prelude.{pos}
use Rattle.fixed_math.specs.Bitexact.{product}
use Rattle.fixed_math.specs.Items.{item}
use Rattle.band_shapes.proofs.copies.copy_shape.Given as goal

abbrev pub invariant-loop-i : goal.invariant-loop-i
invariant-loop-i l = (p : ℕ) → p < l.i → item l.out p ≡ product (pos l.f) (item l.x p)
