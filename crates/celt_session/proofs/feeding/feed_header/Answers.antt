use Rattle.celt_session.specs.EncoderPairs.{pair_work}
use Rattle.std.proofs.Common.{◌≡◌, arith, ◌-◌, length-drop, ◌+◌, ◌++◌, [], length, ap, subst, ◌∙◌, sym}
use Rattle.celt_session.specs.declared.plan.Plan.{Plan}
use Rattle.celt_session.specs.Makers.{GoesOn}
use Rattle.celt_session.specs.FrameSessions.{StandsBy, BeforeSamples}
use Rattle.celt_session.proofs.FeedingSamples.{sound_among, sound_before, faulty_now, given_none, given_faulty, adds_nothing, unfinished_by, headers_failed, begins_at, stands_before, stands_first, plan_first, first_taken, first_failed}
use Rattle.celt_session.proofs.feeding.feed_header.Goals as goal

pub returns-in-Need-clause-adds : goal.returns-in-Need-clause-adds
returns-in-Need-clause-adds g c = λ bytes stands.
    let w = pair_work in
    let s = c.args.session.now in
    let now = bytes ++ c.args.piece.now in
    let h : BeforeSamples w s bytes = subst (StandsBy w s bytes) c.requires.recording stands in
    let u = unfinished_by (length bytes) _ (c.in-Need.ensures.answer bytes h.reads) in (
      stands_before w _ now c.requires.recording (record { reads = c.in-Need.ensures.longer bytes h.reads; between = u.0; unfinished = u.1; shows = h.shows }),
      sound_before now u.0 u.1,
      adds_nothing w.function s.settings bytes now (g.K.Sink.held c.args.output.now) (given_none w.function s.settings bytes h.between h.unfinished) (given_none w.function s.settings now u.0 u.1),
    )

pub returns-in-Fault-clause-adds : goal.returns-in-Fault-clause-adds
returns-in-Fault-clause-adds g c = λ bytes stands.
    let w = pair_work in
    let s = c.args.session.now in
    let now = bytes ++ c.args.piece.now in
    let h : BeforeSamples w s bytes = subst (StandsBy w s bytes) c.requires.recording stands in
    let e = c.in-Fault.ensures.gives bytes h.reads in
    (faulty_now now c.in-Fault.fault e, adds_nothing w.function s.settings bytes now (g.K.Sink.held c.args.output.now) (given_none w.function s.settings bytes h.between h.unfinished) (given_faulty w.function s.settings now c.in-Fault.fault e))

pub returns-in_default-clause-adds : goal.returns-in_default-clause-adds
returns-in_default-clause-adds g c = λ bytes stands.
    let w = pair_work in
    let s = c.args.session.now in
    let d = c.in-Data in
    let now = bytes ++ c.args.piece.now in
    let h : BeforeSamples w s bytes = subst (StandsBy w s bytes) c.requires.recording stands in
    let begun = begins_at now d.channels d.rate (length bytes + d.used) d.size (d.ensures.gives bytes h.reads) d.ensures.playable.2 in
    headers_failed w.function s.settings bytes now d.channels (length bytes + d.used) d.size (g.K.Sink.held c.args.output.now) (g.K.Sink.held c.begin_recording.new.output) (given_none w.function s.settings bytes h.between h.unfinished) begun c.in_default.ensures.bytes

pub returns-in-Ok-take_piece-clause-adds : goal.returns-in-Ok-take_piece-clause-adds
returns-in-Ok-take_piece-clause-adds g c = λ bytes stands.
    let w = pair_work in
    let s = c.args.session.now in
    let d = c.in-Data in
    let r = c.in-Ok.recording in
    let m = c.begin_recording.new.maker in
    let rest = c.split_at.result.1.now in
    let now = bytes ++ c.args.piece.now in
    let after = c.take_piece.new.maker in
    let old = g.K.Sink.held c.args.output.now in
    let mid = g.K.Sink.held c.begin_recording.new.output in
    let new = g.K.Sink.held c.take_piece.new.output in
    let h : BeforeSamples w s bytes = subst (StandsBy w s bytes) c.requires.recording stands in
    let begun = begins_at now d.channels d.rate (length bytes + d.used) d.size (d.ensures.gives bytes h.reads) d.ensures.playable.2 in
    let is = c.in-Ok.ensures.begun in
    let e = c.in-Ok-take_piece.ensures in
    let t = e.taken [] 0 (is.made h.shows) in
    let going = subst (λ (p : Plan). GoesOn p after) e.plan (e.taking 0 is.taking).going in
    let plan = plan_first w s.settings r s.maker m bytes c.args.piece.now rest d.channels d.used d.size begun is c.split_at.ensures.back in (
      stands_first w s.settings r s.maker m bytes c.args.piece.now rest d.channels d.used d.size begun is c.split_at.ensures.back _ after m.packer.packets mid new e.plan e.left d.ensures.used.1 t s.fed (sym c.requires.reading.fed ∙ h.reads.count),
      sound_among now d.channels 48000 (length bytes + d.used) d.size begun,
      first_taken w s.settings r.plan d.channels (length bytes + d.used) d.size _ bytes now (given_none w.function s.settings bytes h.between h.unfinished) plan begun m.packer.packets after old mid new is.packets c.in-Ok.ensures.bytes t going,
    )

pub returns-in-Ok-take_piece-clause-goes : goal.returns-in-Ok-take_piece-clause-goes
returns-in-Ok-take_piece-clause-goes g c = λ going.
    let t = c.in-Ok-take_piece.ensures.taking 0 c.in-Ok.ensures.begun.taking in
    let len : length c.split_at.result.1.now ≡ length c.args.piece.now - c.in-Data.used = ap length c.split_at.ensures.back ∙ length-drop c.in-Data.used c.args.piece.now in
    record { maker = t.maker; going = t.going; sum = let a = t.sum in omega arith }

pub returns-in-Err-clause-adds : goal.returns-in-Err-clause-adds
returns-in-Err-clause-adds g c = λ bytes stands.
    let w = pair_work in
    let s = c.args.session.now in
    let d = c.in-Data in
    let r = c.in-Ok.recording in
    let m = c.begin_recording.new.maker in
    let rest = c.split_at.result.1.now in
    let now = bytes ++ c.args.piece.now in
    let old = g.K.Sink.held c.args.output.now in
    let mid = g.K.Sink.held c.begin_recording.new.output in
    let new = g.K.Sink.held c.take_piece.new.output in
    let h : BeforeSamples w s bytes = subst (StandsBy w s bytes) c.requires.recording stands in
    let begun = begins_at now d.channels d.rate (length bytes + d.used) d.size (d.ensures.gives bytes h.reads) d.ensures.playable.2 in
    let is = c.in-Ok.ensures.begun in
    let t = c.in-Err.ensures.taken [] 0 (is.made h.shows) in
    let plan = plan_first w s.settings r s.maker m bytes c.args.piece.now rest d.channels d.used d.size begun is c.split_at.ensures.back in
    first_failed w s.settings r.plan d.channels (length bytes + d.used) d.size _ bytes now (given_none w.function s.settings bytes h.between h.unfinished) plan begun m.packer.packets old mid new is.packets c.in-Ok.ensures.bytes t
