use Rattle.std.proofs.Common.{◌+◌, ◌*◌, ◌≤◌, ◌∷◌, [], take, drop, refl, sym, subst, arith}
use Rattle.celt_session.specs.Frames.{framed}
use Rattle.celt_session.specs.FrameBatches.{frames_in}
use Rattle.celt_session.specs.Samples.{Sounds, text_of}
use Rattle.celt_session.specs.Playing.{decoder_step, target_for}
use Rattle.std.proofs.lemmas.List.{take_all, take-append-drop}
use Rattle.celt_session.proofs.Framing.{next-is}
use Rattle.celt_session.proofs.Gathering.{frames_count}
use Rattle.celt_session.proofs.Sounding.{sounds_none, front_longer}
use Rattle.celt_base.specs.Outside.{AppendsFront}
use Rattle.celt_session.proofs.Played.{plays_on, same_on, goes_on, fails_on}
use Rattle.celt_session.proofs.playing.write_batch.Goals as goal

pub loop-i-init : goal.loop-i-init
loop-i-init g c =
    let d = c.args.decoder.now in
    let p = c.args.playing in
    record {
      same = refl;
      sounds = sounds_none decoder_step d.state (target_for d p) (p.channels * p.span.from) (p.channels * p.span.to) (g.K.Sink.held c.args.output.now);
      kept = omega arith;
    }

pub write_frame-requires-clause-playing : goal.write_frame-requires-clause-playing
write_frame-requires-clause-playing g c = plays_on c.args.decoder.now c.loop-i.decoder c.args.playing c.loop-i.span c.loop-i.invariant.same c.requires.playing

pub returns-in-Err-clause-plays : goal.returns-in-Err-clause-plays
returns-in-Err-clause-plays g c =
    let d = c.args.decoder.now in
    let p = c.args.playing in
    let i = c.loop-i.i in
    let frames = frames_in c.args.batch.now in
    let frame = framed c.frame.result.kind c.frame.result.bytes.now in
    let old = g.K.Sink.held c.args.output.now in
    let mid = g.K.Sink.held c.loop-i.output in
    let new = g.K.Sink.held c.write_frame.new.output in
    let from = p.channels * p.span.from in
    let to = p.channels * p.span.to in
    subst (λ l. AppendsFront old new (text_of decoder_step d.state (target_for d p) l from to)) (take-append-drop (i + 1) frames)
    (front_longer decoder_step d.state (target_for d p) (take (i + 1) frames) (drop (i + 1) frames) from to old new
    (subst (λ l. AppendsFront old new (text_of decoder_step d.state (target_for d p) l from to)) (sym (next-is frames i frame c.frame.ensures.item))
    (fails_on d c.loop-i.decoder p c.loop-i.span (take i frames) (frame ∷ []) old mid new c.requires.playing c.loop-i.invariant.same c.loop-i.invariant.sounds c.in-Err.ensures.plays)))

pub loop-i-preserved : goal.loop-i-preserved
loop-i-preserved g c =
    let d = c.args.decoder.now in
    let m = c.loop-i.decoder in
    let p = c.args.playing in
    let i = c.loop-i.i in
    let n = c.in-Ok.next in
    let now = c.write_frame.new.decoder in
    let frames = frames_in c.args.batch.now in
    let frame = framed c.frame.result.kind c.frame.result.bytes.now in
    let old = g.K.Sink.held c.args.output.now in
    let mid = g.K.Sink.held c.loop-i.output in
    let new = g.K.Sink.held c.write_frame.new.output in
    let kept : g.K.Sink.faults c.args.output.now ≤ g.K.Sink.faults c.loop-i.output = c.loop-i.invariant.kept in
    let more : g.K.Sink.faults c.loop-i.output ≤ g.K.Sink.faults c.write_frame.new.output = c.in-Ok.ensures.cause in
    record {
      same = same_on d m now c.loop-i.invariant.same c.in-Ok.ensures.same;
      sounds = subst (λ l. Sounds decoder_step d.state (target_for d p) l (p.channels * p.span.from) (p.channels * p.span.to) now.state (p.channels * n.from) (p.channels * n.to) old new)
          (sym (next-is frames i frame c.frame.ensures.item))
          (goes_on d m now.state p c.loop-i.span n (take i frames) (frame ∷ []) old mid new c.requires.playing c.loop-i.invariant.same c.loop-i.invariant.sounds c.in-Ok.ensures.plays);
      kept = omega arith;
    }

pub returns-clause-plays : goal.returns-clause-plays
returns-clause-plays g c =
    let d = c.args.decoder.now in
    let p = c.args.playing in
    let s = c.loop-i.span in
    let many = frames_count c.args.batch.now c.requires.rooms in
    let end = c.len-i-end.ensures in
    let past = c.loop-i-test.false in
    subst (λ l. Sounds decoder_step d.state (target_for d p) l (p.channels * p.span.from) (p.channels * p.span.to) c.loop-i.decoder.state (p.channels * s.from) (p.channels * s.to) (g.K.Sink.held c.args.output.now) (g.K.Sink.held c.loop-i.output))
    (take_all c.loop-i.i (frames_in c.args.batch.now) (omega arith)) c.loop-i.invariant.sounds
