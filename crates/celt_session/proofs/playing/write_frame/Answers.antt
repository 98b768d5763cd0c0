use Rattle.std.proofs.Common.{◌*◌, ◌%◌, ◌^◌, ◌≤◌, sym, ◌∙◌, ap, subst, arith, w32}
use Rattle.std.proofs.Math.Facts.{to_z-of_z}
use Rattle.std.proofs.lemmas.Int.{ints, fits_signed_from_abs}
use Rattle.celt_synth.specs.Decoders.{with_state}
use Rattle.celt_session.specs.Playing.{played_by}
use Rattle.celt_session.proofs.Played.{frame_room, frame_sounds, frame_fails}
use Rattle.celt_session.proofs.playing.write_frame.Goals as goal

pub split_at_mut-samples-requires : goal.split_at_mut-samples-requires
split_at_mut-samples-requires g c =
    subst (λ n. 120 * 2 ^ c.args.frame.kind.lm % 18446744073709551616 * n ≤ 1920) (sym c.from.ensures) (frame_room c.args.frame.kind.lm c.args.playing.channels c.args.frame.kind.sized c.requires.playing.one_or_two)

pub returns-in-Ok-clause-plays : goal.returns-in-Ok-clause-plays
returns-in-Ok-clause-plays g c =
    let d = c.args.decoder.now in
    let h = c.requires.playing.gain in
    let same = to_z-of_z {w = w32} {z = c.args.playing.gain} (fits_signed_from_abs w32 c.args.playing.gain (omega (arith, ints, h))) in
    frame_sounds c.args.decoder.now c.play_frame.new.decoder c.args.playing c.args.frame.kind c.args.frame.bytes.now c.play_frame.new.out
    (record {
      playing = c.requires.playing;
      now_is = c.play_frame.ensures.state ∙ ap (λ z. with_state d (played_by d c.args.frame.kind c.args.frame.bytes.now z).state) same;
      out_is = c.play_frame.ensures.samples ∙ ap (λ z. (played_by d c.args.frame.kind c.args.frame.bytes.now z).samples) same;
    })
    _ c.span_behind.result (g.K.Sink.held c.args.output.now) (g.K.Sink.held c.write_cut.new.output)
    (c.play_frame.auto.out ∙ c.split_at_mut-samples.ensures.front_len ∙ ap (λ n. 120 * 2 ^ c.args.frame.kind.lm % 18446744073709551616 * n) c.from.ensures)
    c.span_behind.ensures c.in-Ok.ensures.bytes

pub returns-in-Err-clause-plays : goal.returns-in-Err-clause-plays
returns-in-Err-clause-plays g c =
    let d = c.args.decoder.now in
    let h = c.requires.playing.gain in
    let same = to_z-of_z {w = w32} {z = c.args.playing.gain} (fits_signed_from_abs w32 c.args.playing.gain (omega (arith, ints, h))) in
    frame_fails c.args.decoder.now c.play_frame.new.decoder c.args.playing c.args.frame.kind c.args.frame.bytes.now c.play_frame.new.out
    (record {
      playing = c.requires.playing;
      now_is = c.play_frame.ensures.state ∙ ap (λ z. with_state d (played_by d c.args.frame.kind c.args.frame.bytes.now z).state) same;
      out_is = c.play_frame.ensures.samples ∙ ap (λ z. (played_by d c.args.frame.kind c.args.frame.bytes.now z).samples) same;
    })
    (g.K.Sink.held c.args.output.now) (g.K.Sink.held c.write_cut.new.output) c.in-Err.ensures.bytes
