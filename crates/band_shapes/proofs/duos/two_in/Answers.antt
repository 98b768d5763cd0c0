use Rattle.std.proofs.Common.{rules, get_or}
use Rattle.std.specs.Prelude.{pos, FitsSigned}
use Rattle.std.specs.Int.{w64}
use Rattle.std.proofs.lemmas.Int.{to_z-of_z}
use Rattle.band_shapes.proofs.DuoLemmas.{two_front}
use Rattle.band_shapes.proofs.duos.two_in.Goals as goal

pub returns : goal.returns
returns c =
    let f : FitsSigned w64 (get_or c.args.x.now 0 (pos 0)) = search rules in
    let g : FitsSigned w64 (get_or c.args.x.now 1 (pos 0)) = search rules in
    simp to_z-of_z (two_front c.args.x.now c.requires)
