use Rattle.std.proofs.Common.{◌≡◌, ◌<◌, ◌^◌, ◌++◌}
use Rattle.std.specs.Prelude.{map, take, drop, neg_ℤ, All, unsigned_abs}
use Rattle.band_shapes.proofs.pairs.negate.Given as goal

abbrev pub invariant-loop-i : goal.invariant-loop-i
invariant-loop-i l = (l.z ≡ map neg_ℤ (take l.i l.fn.z) ++ drop l.i l.fn.z) × All (λ v. unsigned_abs v < 2 ^ 40) l.z
