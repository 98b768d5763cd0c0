use Rattle.std.proofs.Common.{◌*◌, ◌∙◌, arith, w32, FitsSigned}
use Rattle.std.proofs.lemmas.Int.{to_z-of_z, fits_signed_from_abs}
use Rattle.celt_synth.specs.Filters.{AreEmitted, frame_of}
use Rattle.celt_synth.specs.Signals.{outputs_of}
use Rattle.celt_synth.proofs.SignalLemmas.{stereo_is}
use Rattle.celt_synth.proofs.decoder.sound_both.Goals as goal

pub returns-clause-samples : goal.returns-clause-samples
returns-clause-samples c =
    let gain = c.args.sounding.gain in
    let f = c.args.sounding.form in
    let a = c.args.buffers.now.left in
    let b = c.args.buffers.now.right in
    let fg : FitsSigned w32 c.args.sounding.gain = fits_signed_from_abs w32 _ (let g = c.requires.gain in omega (arith, g)) in
    let r : AreEmitted gain a.memory (frame_of (outputs_of f a.kept c.args.left.now)) 0 2 (120 * f.blocks) c.args.out.now c.sound.new.out = simp to_z-of_z at c.sound.ensures.samples in
    let s : AreEmitted gain b.memory (frame_of (outputs_of f b.kept c.args.right.now)) 1 2 (120 * f.blocks) c.sound.new.out c.sound-2.new.out = simp to_z-of_z at c.sound-2.ensures.samples in
    stereo_is gain f a b c.args.left.now c.args.right.now c.args.out.now c.sound.new.out c.sound-2.new.out (c.sound-2.auto.out ∙ c.sound.auto.out ∙ c.requires.out) r s
