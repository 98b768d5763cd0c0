use Rattle.std.proofs.Common.{◌≡◌}
use Rattle.band_shapes.specs.Frames.{masks_or}
use Rattle.band_shapes.proofs.plans.masks_or.Given as goal

abbrev pub invariant-loop-k : goal.invariant-loop-k
invariant-loop-k l = l.all ≡ masks_or l.masks l.first l.k
