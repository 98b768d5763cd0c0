use Rattle.std.proofs.Common.{◌≡◌, ◌-◌, ◌≤◌, ◌^◌}
use Rattle.std.specs.Prelude.{All, unsigned_abs}
use Rattle.band_shapes.specs.Channels.{haar_down, grown}
use Rattle.band_shapes.proofs.change.haar_down.Given as goal

abbrev pub invariant-loop-k : goal.invariant-loop-k
invariant-loop-k l = (haar_down l.stride l.k l.x ≡ haar_down l.stride l.steps l.fn.x) × All (λ v. unsigned_abs v ≤ grown (l.steps - l.k) (2 ^ 30)) l.x
