use Rattle.std.proofs.Common.{◌≡◌, ◌*◌, ◌≤◌, refl, sym, subst, ◌∙◌, arith}
use Rattle.celt_session.specs.declared.playing.Playing.{Playing}
use Rattle.celt_base.specs.Outside.{AppendsFront}
use Rattle.celt_session.specs.FrameBatches.{frames_in}
use Rattle.celt_session.specs.Samples.{Sounds, text_of}
use Rattle.celt_session.specs.Playing.{decoder_step, playing_in, IsPlaying}
use Rattle.celt_session.proofs.Batched.{played_none, played_more, played_failed, played_all}
use Rattle.celt_session.proofs.Gathering.{emptied_frames}
use Rattle.celt_session.proofs.Played.{plays_on, same_on, target_by, gain_held}
use Rattle.celt_session.proofs.playing.write_page.Goals as goal

pub batches-init : goal.batches-init
batches-init g c = record {
  rooms = c.requires.rooms;
  few = omega arith;
  within = omega arith;
  same = refl;
  sounds = λ heard is.
      subst (λ q. Rattle.celt_session.proofs.Batched.PlayedTo c.args.decoder.now (playing_in c.args.reader.now) heard.packets Rattle.celt_session.proofs.Batched.first_place c.args.decoder.now.state q.span (g.K.Sink.held c.args.output.now) (g.K.Sink.held c.args.output.now))
      (sym c.playing_of-playing.ensures.is) (played_none c.args.decoder.now (playing_in c.args.reader.now) heard.packets (g.K.Sink.held c.args.output.now));
  kept = omega arith;
}

pub write_batch-requires-clause-playing : goal.write_batch-requires-clause-playing
write_batch-requires-clause-playing g c =
    plays_on c.args.decoder.now c.batches.decoder c.playing_of-playing.result c.batches.span c.batches.invariant.same
    (subst (IsPlaying c.args.decoder.now) (sym c.playing_of-playing.ensures.is) c.requires.playing)

pub batches-preserved : goal.batches-preserved
batches-preserved g c =
    let d = c.args.decoder.now in
    let m = c.batches.decoder in
    let now = c.write_batch.new.decoder in
    let p = playing_in c.args.reader.now in
    let i = c.batches.invariant in
    let s = c.batches.span in
    let n = c.in-Ok.next in
    let frames = frames_in c.fill-place.new.self in
    let old = g.K.Sink.held c.args.output.now in
    let mid = g.K.Sink.held c.batches.output in
    let new = g.K.Sink.held c.write_batch.new.output in
    let kept : g.K.Sink.faults c.args.output.now ≤ g.K.Sink.faults c.batches.output = i.kept in
    let more : g.K.Sink.faults c.batches.output ≤ g.K.Sink.faults c.write_batch.new.output = c.in-Ok.ensures.cause in
    record {
      rooms = c.fill-place.ensures.rooms;
      few = c.fill-place.ensures.few;
      within = c.fill-place.ensures.within;
      same = same_on d m now i.same c.in-Ok.ensures.same;
      sounds = λ heard is.
          played_more d p heard.packets m now.state c.batches.place c.fill-place.result s n frames old mid new c.requires.playing i.same (i.sounds heard is) (c.fill-place.ensures.frames heard is)
          (subst (λ (q : Playing). Sounds decoder_step m.state (target_by q (gain_held q) m.invert) frames (q.channels * s.from) (q.channels * s.to) now.state (q.channels * n.from) (q.channels * n.to) mid new)
          c.playing_of-playing.ensures.is c.in-Ok.ensures.plays);
      kept = omega arith;
    }

pub returns-in-Err-clause-plays : goal.returns-in-Err-clause-plays
returns-in-Err-clause-plays g c = λ heard is.
    let m = c.batches.decoder in
    let i = c.batches.invariant in
    let s = c.batches.span in
    let frames = frames_in c.fill-place.new.self in
    let mid = g.K.Sink.held c.batches.output in
    let new = g.K.Sink.held c.write_batch.new.output in
    played_failed c.args.decoder.now (playing_in c.args.reader.now) heard.packets m c.batches.place c.fill-place.result s frames (g.K.Sink.held c.args.output.now) mid new c.requires.playing i.same
    (i.sounds heard is) (c.fill-place.ensures.frames heard is)
    (subst (λ (q : Playing). AppendsFront mid new (text_of decoder_step m.state (target_by q (gain_held q) m.invert) frames (q.channels * s.from) (q.channels * s.to)))
    c.playing_of-playing.ensures.is c.in-Err.ensures.plays)

pub returns-then-len-eq0-clause-plays : goal.returns-then-len-eq0-clause-plays
returns-then-len-eq0-clause-plays g c = λ heard is.
    let i = c.batches.invariant in
    let none : c.fill-place.new.self.count ≡ 0 = sym c.len.ensures ∙ c.if-len-eq0.true in
    played_all c.args.decoder.now (playing_in c.args.reader.now) heard.packets c.batches.decoder.state c.batches.place c.fill-place.result c.batches.span (frames_in c.fill-place.new.self)
    (g.K.Sink.held c.args.output.now) (g.K.Sink.held c.batches.output) (i.sounds heard is) (c.fill-place.ensures.frames heard is) (emptied_frames c.fill-place.new.self none) (c.fill-place.ensures.none none heard is)
