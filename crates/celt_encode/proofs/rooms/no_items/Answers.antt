use Rattle.std.proofs.Common.{◌^◌, ◌<◌, pos, unsigned_abs, arith}
use Rattle.std.proofs.lemmas.List.Elements.{All-replicate}
use Rattle.celt_encode.proofs.rooms.no_items.Goals as goal

pub returns-clause-sizes : goal.returns-clause-sizes
returns-clause-sizes c = All-replicate (λ v. unsigned_abs v < 2 ^ 20) 176 (pos 0) (omega arith)
