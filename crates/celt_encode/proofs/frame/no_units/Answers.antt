use Rattle.std.proofs.Common.{◌^◌, ◌≤◌, pos, replicate, unsigned_abs, All, arith}
use Rattle.std.proofs.lemmas.List.Elements.{All-replicate}
use Rattle.celt_encode.proofs.frame.no_units.Goals as goal

pub returns-clause-sizes : goal.returns-clause-sizes
returns-clause-sizes c =
    All-replicate (λ row. All (λ v. unsigned_abs v ≤ 2 ^ 14) row) 2 (replicate 800 (pos 0)) (All-replicate (λ v. unsigned_abs v ≤ 2 ^ 14) 800 (pos 0) (omega arith))
