use Rattle.std.proofs.Common.{◌≡◌, ◌∙◌, ap, sym, true, false}
use Rattle.band_energy.specs.EnergyValues.{energies_of}
use Rattle.celt_synth.specs.Shared.{silent_energies}
use Rattle.celt_synth.specs.Rows.{silenced}
use Rattle.celt_synth.proofs.SharingLemmas.{energies_silent, energies_sounding}
use Rattle.celt_synth.proofs.sharing.hear_energies.Goals as goal

pub returns-then-silent-clause-value : goal.returns-then-silent-clause-value
unfolding silent_energies
returns-then-silent-clause-value c = λ value h.
    let kind = c.args.kind in
    let e : c.args.s.now.fields.silent ≡ true = sym c.silent.ensures ∙ c.if-silent.true in
    c.silence.ensures.value ∙ ap (silenced kind.channels) c.take_greater.ensures.value ∙ energies_silent kind c.args.s.now.fields c.args.s.now.range value c.args.energies.now h e

pub returns-clause-value : goal.returns-clause-value
returns-clause-value c = λ value h.
    let kind = c.args.kind in
    let e : c.args.s.now.fields.silent ≡ false = sym c.silent.ensures ∙ c.if-silent.false in
    c.apply.ensures.value
    ∙ (λ k. energies_of kind (c.intra.ensures k) (c.allocation.ensures k) (c.energy.ensures k) (c.take_greater.ensures.value k))
    ∙ energies_sounding kind c.args.s.now.fields c.args.s.now.range value c.args.energies.now h e
