use Rattle.std.proofs.Common.{◌≡◌, ◌-◌}
use Rattle.band_shapes.specs.Frames.{first_that, starts_from}
use Rattle.band_shapes.proofs.plans.first_from.Given as goal

abbrev pub invariant-loop-k : goal.invariant-loop-k
invariant-loop-k l = first_that (starts_from l.kind l.place) (21 - l.low) l.low ≡ first_that (starts_from l.kind l.place) (21 - l.k) l.k
