use Rattle.std.proofs.Common.{◌*◌, ◌∙◌, arith, w32, FitsSigned}
use Rattle.std.proofs.lemmas.Int.{to_z-of_z, fits_signed_from_abs}
use Rattle.celt_synth.specs.Filters.{AreEmitted, frame_of}
use Rattle.celt_synth.specs.Signals.{outputs_of}
use Rattle.celt_synth.proofs.SignalLemmas.{mono_is}
use Rattle.celt_synth.proofs.decoder.sound_one.Goals as goal

pub returns-clause-samples : goal.returns-clause-samples
returns-clause-samples c =
    let gain = c.args.sounding.gain in
    let f = c.args.sounding.form in
    let a = c.args.buffer.now in
    let fg : FitsSigned w32 c.args.sounding.gain = fits_signed_from_abs w32 _ (let g = c.requires.gain in omega (arith, g)) in
    let r : AreEmitted gain a.memory (frame_of (outputs_of f a.kept c.args.spectrum.now)) 0 1 (120 * f.blocks) c.args.out.now c.sound.new.out = simp to_z-of_z at c.sound.ensures.samples in
    mono_is gain f a c.args.spectrum.now c.args.out.now c.sound.new.out (c.sound.auto.out ∙ c.requires.out) r
