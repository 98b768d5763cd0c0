use Rattle.std.proofs.Common.{◌≡◌, ◌<◌, ◌*◌, ◌^◌, ℕ, ℤ, List, arith, ap, sym, ◌∙◌, w64, FitsSigned}
use Rattle.std.proofs.lemmas.Int.{to_z-of_z}
use Rattle.std.specs.Int.{int_max}
use Rattle.celt_synth.specs.Rows.{entry}
use Rattle.celt_synth.proofs.AntiCollapseLemmas.{older_mono, older_stereo}
use Rattle.celt_synth.proofs.anti_collapse.older.Goals as goal

pub returns-then-kind-eq1-clause-value : goal.returns-then-kind-eq1-clause-value
returns-then-kind-eq1-clause-value c =
    let fx : FitsSigned w64 c.energy_at.result = record { sfits = c.energy_at.type_inv } in
    let fy : FitsSigned w64 c.energy_at-then-kind-eq1.result = record { sfits = c.energy_at-then-kind-eq1.type_inv } in
    let fv : FitsSigned w64 c.greater_of.result = record { sfits = c.greater_of.type_inv } in
    let x : c.energy_at.result ≡ entry c.args.rows.now 0 c.args.b = c.energy_at.ensures.value in
    let y : c.energy_at-then-kind-eq1.result ≡ entry c.args.rows.now 1 c.args.b = c.energy_at-then-kind-eq1.ensures.value in
    let v : c.greater_of.result ≡ int_max c.energy_at.result c.energy_at-then-kind-eq1.result = simp to_z-of_z at c.greater_of.ensures.value in
    simp to_z-of_z (older_mono c.args.kind.channels c.args.rows.now c.args.c c.args.b _ _ _ (omega (arith, c.if-kind-eq1.true)) x y v)

pub returns-clause-value : goal.returns-clause-value
returns-clause-value c =
    let s = c.args.kind.some_channel in
    let t = c.args.kind.two_channels in
    let f = c.if-kind-eq1.false in
    let fv : FitsSigned w64 c.energy_at-2.result = record { sfits = c.energy_at-2.type_inv } in
    let v : c.energy_at-2.result ≡ entry c.args.rows.now c.args.c c.args.b = c.energy_at-2.ensures.value in
    simp to_z-of_z (older_stereo c.args.kind.channels c.args.rows.now c.args.c c.args.b _ (omega (arith, f, s, t)) v)
