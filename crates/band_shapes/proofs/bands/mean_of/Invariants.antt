use Rattle.std.proofs.Common.{◌≡◌, ◌≤◌, ◌^◌, ◌++◌, take, drop}
use Rattle.std.specs.Prelude.{All, unsigned_abs}
use Rattle.band_shapes.specs.Frames.{means}
use Rattle.band_shapes.proofs.bands.mean_of.Given as goal

abbrev pub invariant-loop-i : goal.invariant-loop-i
invariant-loop-i l = (l.left ≡ means (take l.i l.fn.left) (take l.i l.fn.right) ++ drop l.i l.fn.left) × All (λ v. unsigned_abs v ≤ 2 ^ 19) l.left
