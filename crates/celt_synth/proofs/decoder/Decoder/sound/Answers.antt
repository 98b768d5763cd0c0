use Rattle.std.proofs.Common.{◌≡◌, ◌∙◌, arith, ap, w32, FitsSigned}
use Rattle.std.proofs.lemmas.Int.{to_z-of_z, fits_signed_from_abs}
use Rattle.celt_synth.specs.Decoders.{with_state}
use Rattle.celt_synth.proofs.StepLemmas.{both_sounded, both_samples, one_sounded, one_samples}
use Rattle.celt_synth.proofs.decoder.Decoder.sound.Goals as goal

pub returns-then-self-eq2-clause-state : goal.returns-then-self-eq2-clause-state
returns-then-self-eq2-clause-state c =
    rw (← c.self.view_is)
    (ap (λ s. record { channels = c.self.inside.channels; invert = c.self.inside.invert; state = s })
    (both_sounded c.self.inside.channels c.args.channels c.args.sounding.form c.args.left.now c.args.right.now c.to_stereo.new.right _ _ _ c.if-self-eq2.true c.requires.channels c.to_stereo.ensures.value
    c.sound_both.ensures.left c.sound_both.ensures.right))

pub returns-then-self-eq2-clause-samples : goal.returns-then-self-eq2-clause-samples
returns-then-self-eq2-clause-samples c =
    let fg : FitsSigned w32 c.args.sounding.gain = fits_signed_from_abs w32 _ (let g = c.requires.gain in omega (arith, g)) in
    rw (← c.self.view_is)
    (both_samples c.self.inside.channels c.args.channels c.args.sounding.gain c.args.sounding.form c.args.left.now c.args.right.now c.to_stereo.new.right _ _ c.if-self-eq2.true c.requires.channels c.to_stereo.ensures.value
    c.sound_both.ensures.samples)

pub returns-clause-state : goal.returns-clause-state
returns-clause-state c =
    let s = c.self.invariant.some in
    let t = c.self.invariant.most in
    let f = c.if-self-eq2.false in
    rw (← c.self.view_is)
    (ap (λ s. record { channels = c.self.inside.channels; invert = c.self.inside.invert; state = s })
    (one_sounded c.self.inside.channels c.args.channels c.args.sounding.form c.args.left.now c.args.right.now c.to_mono.new.left _ _ (omega (arith, s, t, f)) c.to_mono.ensures.value c.sound_one.ensures.channel))

pub returns-clause-samples : goal.returns-clause-samples
returns-clause-samples c =
    let s = c.self.invariant.some in
    let t = c.self.invariant.most in
    let f = c.if-self-eq2.false in
    rw (← c.self.view_is)
    (one_samples c.self.inside.channels c.args.channels c.args.sounding.gain c.args.sounding.form c.args.left.now c.args.right.now c.to_mono.new.left _ _ (omega (arith, s, t, f)) c.to_mono.ensures.value c.sound_one.ensures.samples)
