use Rattle.std.proofs.Common.{◌<◌, ◌^◌}
use Rattle.std.specs.Prelude.{All, unsigned_abs}
use Rattle.spread_fold.proofs.tests.levels.Given as goal

abbrev pub invariant-loop-i : goal.invariant-loop-i
invariant-loop-i l = All (λ v. unsigned_abs v < 2 ^ 20) l.x
