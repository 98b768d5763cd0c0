use Rattle.std.proofs.Common.{sym, ◌∙◌, ap, w32}
use Rattle.std.proofs.Math.Facts.{to_z-of_z}
use Rattle.celt_synth.specs.Decoders.{with_state}
use Rattle.celt_synth.specs.Readings.{frame_step}
use Rattle.celt_synth.specs.Steps.{Stepped, conceal}
use Rattle.frame_symbols.specs.Readings.{reading_of}
use Rattle.celt_session.proofs.Played.{short_step}
use Rattle.celt_session.proofs.playing.play_frame.Goals as goal

pub returns-then-frame-lt2-clause-state : goal.returns-then-frame-lt2-clause-state
returns-then-frame-lt2-clause-state c =
    let d = c.args.decoder.now in
    let f = c.args.frame in
    let same = to_z-of_z {w = w32} {z = c.args.gain} c.ranges.gain in
    c.conceal.ensures.state ∙ ap (λ z. with_state d (conceal d.channels f.kind z d.state).state) same
    ∙ ap (λ (r : Stepped). with_state d r.state) (sym (short_step d.channels d.invert f.kind f.bytes.now c.args.gain d.state c.if-frame-lt2.true))

pub returns-then-frame-lt2-clause-samples : goal.returns-then-frame-lt2-clause-samples
returns-then-frame-lt2-clause-samples c =
    let d = c.args.decoder.now in
    let f = c.args.frame in
    let same = to_z-of_z {w = w32} {z = c.args.gain} c.ranges.gain in
    c.conceal.ensures.samples ∙ ap (λ z. (conceal d.channels f.kind z d.state).samples) same
    ∙ ap (λ (r : Stepped). r.samples) (sym (short_step d.channels d.invert f.kind f.bytes.now c.args.gain d.state c.if-frame-lt2.true))

pub frame-requires-clause-held : goal.frame-requires-clause-held
frame-requires-clause-held c =
    let f = c.args.frame in
    ((reading_of f.kind f.bytes.now).value, (c.requires.read c.if-frame-lt2.false).holds)

pub returns-clause-state : goal.returns-clause-state
returns-clause-state c =
    let d = c.args.decoder.now in
    let f = c.args.frame in
    let same = to_z-of_z {w = w32} {z = c.args.gain} c.ranges.gain in
    c.frame.ensures.read_state f.bytes.now c.if-frame-lt2.false (c.requires.read c.if-frame-lt2.false)
    ∙ ap (λ z. with_state d (frame_step d.channels d.invert f.kind f.bytes.now z d.state).state) same

pub returns-clause-samples : goal.returns-clause-samples
returns-clause-samples c =
    let d = c.args.decoder.now in
    let f = c.args.frame in
    let same = to_z-of_z {w = w32} {z = c.args.gain} c.ranges.gain in
    c.frame.ensures.read_samples f.bytes.now c.if-frame-lt2.false (c.requires.read c.if-frame-lt2.false)
    ∙ ap (λ z. (frame_step d.channels d.invert f.kind f.bytes.now z d.state).samples) same
