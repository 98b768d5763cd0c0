use Rattle.std.proofs.lemmas.Int.{to_z-of_z}
use Rattle.celt_analysis.proofs.TransientLemmas.{square_steps}
use Rattle.celt_analysis.proofs.transients.square.Goals as goal

pub returns-clause-size : goal.returns-clause-size
returns-clause-size c =
    let t = square_steps c.args.value c.requires in
    let v = t.v_fits in
    let w = t.whole in
    let n = t.narrow in
    let s = t.square in
    simp to_z-of_z t.size
