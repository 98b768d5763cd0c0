use Rattle.std.proofs.Common.{◌<◌, ◌^◌, arith}
use Rattle.std.specs.Prelude.{pos, unsigned_abs}
use Rattle.std.proofs.lemmas.List.Elements.{All-replicate}
use Rattle.post_filter.proofs.tests.levels.Goals as goal

pub loop-i-init : goal.loop-i-init
loop-i-init c = All-replicate (λ v. unsigned_abs v < 2 ^ 28) 2048 (pos 0) (omega arith)
