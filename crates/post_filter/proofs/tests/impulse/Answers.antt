use Rattle.std.proofs.Common.{◌<◌, ◌^◌, arith}
use Rattle.std.specs.Prelude.{pos, unsigned_abs, replicate}
use Rattle.std.proofs.lemmas.List.Elements.{All-replicate, All-set}
use Rattle.post_filter.proofs.tests.impulse.Goals as goal

pub returns : goal.returns
returns c =
    All-set (λ v. unsigned_abs v < 2 ^ 28) (replicate 2048 (pos 0)) c.args.place (pos 1048576) (omega arith)
    (All-replicate (λ v. unsigned_abs v < 2 ^ 28) 2048 (pos 0) (omega arith))
