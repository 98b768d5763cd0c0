use Rattle.std.proofs.Common.{◌∙◌, refl}
use Rattle.celt_synth.specs.Shared.{shared_in}
use Rattle.celt_synth.proofs.SharingLemmas.{shared_held, shared_answers}
use Rattle.celt_synth.proofs.sharing.share.Goals as goal

pub returns-clause-held : goal.returns-clause-held
returns-clause-held c = λ value h.
    let kind = c.args.kind in
    shared_held kind c.args.s.now.range value (shared_in c.args.before.now) _ c.hear_energies.new.energies c.hear_setting-setting.result (c.hear_energies.ensures.value value h) (c.hear_setting-setting.ensures kind value h)
    c.range.ensures c.range-2.ensures c.keep_energies.ensures.value c.setting_before.ensures refl

pub returns-clause-of : goal.returns-clause-of
returns-clause-of c = λ len are.
    returns-clause-held c are.fields.value are.fields.holds ∙ shared_answers c.args.kind len c.args.s.now (shared_in c.args.before.now) are
