use Rattle.celt_session.specs.EncoderPairs.{pair_work}
use Rattle.std.proofs.Common.{◌++◌, drop, subst}
use Rattle.wav_edge.specs.Reading.{within_size}
use Rattle.celt_session.specs.declared.plan.Plan.{Plan}
use Rattle.celt_session.specs.Makers.{GoesOn}
use Rattle.celt_session.specs.FrameSessions.{StandsBy, AmongSamples}
use Rattle.celt_session.proofs.FeedingSamples.{sound_among, adds_taken, adds_front, go_on, stands_now}
use Rattle.celt_session.proofs.feeding.feed_samples.Goals as goal

pub returns-in-Ok-clause-adds : goal.returns-in-Ok-clause-adds
returns-in-Ok-clause-adds g c = λ bytes stands.
    let w = pair_work in
    let s = c.args.session.now in
    let r = c.args.recording in
    let h : AmongSamples w s.settings r s.maker s.fed bytes = subst (StandsBy w s bytes) c.requires.recording stands in
    let e = c.in-Ok.ensures in
    let t = e.taken (within_size h.size (drop h.place bytes)) h.batches h.made in
    let goes = go_on w s.settings r s.maker bytes c.args.piece.now s.fed h in
    let now = stands_now w s.settings r s.maker bytes c.args.piece.now s.fed h _ c.take_piece.new.maker s.maker.packer.packets (g.K.Sink.held c.args.output.now) (g.K.Sink.held c.take_piece.new.output) e.plan e.left t in (
      now,
      sound_among (bytes ++ c.args.piece.now) now.channels 48000 now.place now.size now.begun,
      adds_taken w s.settings r.plan h.channels h.place h.size _ _ bytes (bytes ++ c.args.piece.now) goes h.batches s.maker c.take_piece.new.maker (g.K.Sink.held c.args.output.now) (g.K.Sink.held c.take_piece.new.output) h.made
          c.requires.taking.going t (subst (λ (p : Plan). GoesOn p c.take_piece.new.maker) e.plan (e.taking s.fed c.requires.taking).going),
    )

pub returns-in-Ok-clause-goes : goal.returns-in-Ok-clause-goes
returns-in-Ok-clause-goes g c = λ going. c.in-Ok.ensures.taking c.args.session.now.fed c.requires.taking

pub returns-in-Err-clause-adds : goal.returns-in-Err-clause-adds
returns-in-Err-clause-adds g c = λ bytes stands.
    let w = pair_work in
    let s = c.args.session.now in
    let r = c.args.recording in
    let h : AmongSamples w s.settings r s.maker s.fed bytes = subst (StandsBy w s bytes) c.requires.recording stands in
    let t = c.in-Err.ensures.taken (within_size h.size (drop h.place bytes)) h.batches h.made in
    let goes = go_on w s.settings r s.maker bytes c.args.piece.now s.fed h in
    adds_front w s.settings r.plan h.channels h.place h.size _ _ bytes (bytes ++ c.args.piece.now) goes h.batches s.maker (g.K.Sink.held c.args.output.now) (g.K.Sink.held c.take_piece.new.output) h.made c.requires.taking.going t
