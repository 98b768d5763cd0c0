use Rattle.std.proofs.Common.{◌≡◌, ◌∙◌, sym, true, false}
use Rattle.celt_synth.proofs.ReadingLemmas.{setting_held}
use Rattle.celt_synth.proofs.SharingLemmas.{setting_silent, setting_sounding}
use Rattle.celt_synth.proofs.sharing.hear_setting.Goals as goal

pub returns-then-silent : goal.returns-then-silent
returns-then-silent c = λ kind value h.
    let s = c.args.s.now in
    let e : s.fields.silent ≡ true = sym c.silent.ensures ∙ c.if-silent.true in
    setting_silent kind s.fields s.range value _ h e c.off.ensures

pub returns : goal.returns
returns c = λ kind value h.
    let s = c.args.s.now in
    let e : s.fields.silent ≡ false = sym c.silent.ensures ∙ c.if-silent.false in
    setting_sounding kind s.fields s.range value _ h e (setting_held _ s.fields.opening.post_filter s.post_filter c.setting.ensures.period c.setting.ensures.gain c.setting.ensures.tapset)
