use Rattle.std.proofs.Common.{◌≡◌, ◌<◌, ◌*◌, ◌^◌, ℕ, ℤ, List, arith, ap, sym, ◌∙◌, w64, FitsSigned}
use Rattle.std.proofs.lemmas.Int.{to_z-of_z}
use Rattle.celt_synth.specs.Collapse.{rise}
use Rattle.celt_synth.specs.Rows.{entry, older_at}
use Rattle.celt_synth.proofs.AntiCollapseLemmas.{level_at_is}
use Rattle.celt_synth.proofs.anti_collapse.level_in.Goals as goal

pub returns-clause-value : goal.returns-clause-value
returns-clause-value c =
    let g = c.args.grounds.now in
    let fe : FitsSigned w64 c.energy_at.result = record { sfits = c.energy_at.type_inv } in
    let fp : FitsSigned w64 c.older.result = record { sfits = c.older.type_inv } in
    let fq : FitsSigned w64 c.older-2.result = record { sfits = c.older-2.type_inv } in
    let e : c.energy_at.result ≡ entry g.energies c.args.channel c.args.band = c.energy_at.ensures.value in
    let p : c.older.result ≡ older_at g.kind.channels g.older1 c.args.channel c.args.band = c.older.ensures.value in
    let q : c.older-2.result ≡ older_at g.kind.channels g.older2 c.args.channel c.args.band = c.older-2.ensures.value in
    let r : c.rise_of-rise.result ≡ rise c.energy_at.result c.older.result c.older-2.result = simp to_z-of_z at c.rise_of-rise.ensures.value in
    level_at_is g c.args.channel c.args.band _ _ _ _ _ _ _ (λ k. c.blocks-2.ensures.value k * c.width.ensures.value k) c.pulses_at.ensures.value e p q r c.level_of.ensures.value
