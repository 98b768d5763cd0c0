use Rattle.std.proofs.Common.{◌≡◌}
use Rattle.band_shapes.specs.Frames.{last_that, starts_by}
use Rattle.band_shapes.proofs.plans.last_by.Given as goal

abbrev pub invariant-loop-k : goal.invariant-loop-k
invariant-loop-k l = last_that (starts_by l.kind l.place) l.low ≡ last_that (starts_by l.kind l.place) l.k
