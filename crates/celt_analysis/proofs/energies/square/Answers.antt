use Rattle.std.proofs.lemmas.Int.{to_z-of_z}
use Rattle.celt_analysis.proofs.EnergyLemmas.{wide_steps}
use Rattle.celt_analysis.proofs.energies.square.Goals as goal

pub returns-clause-size : goal.returns-clause-size
returns-clause-size c =
    let t = wide_steps c.args.x c.requires in
    let a = t.x_fits in
    let b = t.x_wide in
    let s = t.square in
    simp to_z-of_z t.size
