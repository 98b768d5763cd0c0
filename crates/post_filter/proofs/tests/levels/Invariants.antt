use Rattle.std.proofs.Common.{◌<◌, ◌^◌}
use Rattle.std.specs.Prelude.{All, unsigned_abs}
use Rattle.post_filter.proofs.tests.levels.Given as goal

abbrev pub invariant-loop-i : goal.invariant-loop-i
invariant-loop-i l = All (λ v. unsigned_abs v < 2 ^ 28) l.x
