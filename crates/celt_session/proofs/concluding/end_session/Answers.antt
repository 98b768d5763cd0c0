use Rattle.celt_session.specs.EncoderPairs.{pair_work}
use Rattle.std.proofs.Common.{ap, sym, subst, ◌∙◌}
use Rattle.std.specs.Io.KnownBytes.{Appends}
use Rattle.celt_base.specs.Outside.{AppendsFront}
use Rattle.celt_session.specs.FrameSessions.{StandsBy, GoesBy, AmongSamples, BeforeSamples, IsTaking, is_complete}
use Rattle.celt_session.proofs.EndOfFile.{header_fault, full_none, complete_is, even_is, no_fault, cut_fault, full_is, cut_is}
use Rattle.celt_session.proofs.concluding.end_session.Goals as goal

pub returns-in_default-clause-ends : goal.returns-in_default-clause-ends
returns-in_default-clause-ends g c = λ bytes stands.
    let w = pair_work in
    let s = c.args.session.now in
    let h : BeforeSamples w s bytes = subst (StandsBy w s bytes) c.in_default.is stands in
    (header_fault bytes h.between c.end.result h.unfinished (c.end.ensures bytes h.reads), full_none w.function s.settings bytes h.between (g.K.Sink.held c.args.output.now) h.unfinished)

pub returns-in-Ok-clause-ends : goal.returns-in-Ok-clause-ends
returns-in-Ok-clause-ends g c = λ bytes stands.
    let w = pair_work in
    let s = c.args.session.now in
    let r = c.in-Some.recording in
    let h : AmongSamples w s.settings r s.maker s.fed bytes = subst (StandsBy w s bytes) c.in-Some.is stands in
    let taking : IsTaking w r s.maker s.fed = subst (GoesBy w s) c.in-Some.is c.requires.goes in
    let len = c.len.ensures ∙ s.maker.framer.held.ok.0 in
    let t = sym (complete_is w s.settings r s.maker s.fed bytes h) ∙ ap (is_complete r.left r.plan.kind.channels) (sym len) ∙ sym c.is_complete.ensures ∙ c.if-is_complete.true in
    let none = no_fault w s.settings r s.maker s.fed bytes h t in (
      none,
      subst (Appends (g.K.Sink.held c.args.output.now) (g.K.Sink.held c.end_samples.new.output)) (sym (full_is w s.settings r s.maker s.fed bytes h taking.going none))
          (c.in-Ok.ensures.ends _ h.batches (even_is w s.settings r s.maker s.fed bytes h t) h.made),
    )

pub returns-in-Err-clause-ends : goal.returns-in-Err-clause-ends
returns-in-Err-clause-ends g c = λ bytes stands.
    let w = pair_work in
    let s = c.args.session.now in
    let r = c.in-Some.recording in
    let h : AmongSamples w s.settings r s.maker s.fed bytes = subst (StandsBy w s bytes) c.in-Some.is stands in
    let taking : IsTaking w r s.maker s.fed = subst (GoesBy w s) c.in-Some.is c.requires.goes in
    let len = c.len.ensures ∙ s.maker.framer.held.ok.0 in
    let t = sym (complete_is w s.settings r s.maker s.fed bytes h) ∙ ap (is_complete r.left r.plan.kind.channels) (sym len) ∙ sym c.is_complete.ensures ∙ c.if-is_complete.true in
    let none = no_fault w s.settings r s.maker s.fed bytes h t in
    subst (AppendsFront (g.K.Sink.held c.args.output.now) (g.K.Sink.held c.end_samples.new.output)) (sym (full_is w s.settings r s.maker s.fed bytes h taking.going none))
    (c.in-Err.ensures.ends _ h.batches (even_is w s.settings r s.maker s.fed bytes h t) h.made)

pub returns-in-Ok-settle-clause-ends : goal.returns-in-Ok-settle-clause-ends
returns-in-Ok-settle-clause-ends g c = λ bytes stands.
    let w = pair_work in
    let s = c.args.session.now in
    let r = c.in-Some.recording in
    let h : AmongSamples w s.settings r s.maker s.fed bytes = subst (StandsBy w s bytes) c.in-Some.is stands in
    let taking : IsTaking w r s.maker s.fed = subst (GoesBy w s) c.in-Some.is c.requires.goes in
    let len = c.len.ensures ∙ s.maker.framer.held.ok.0 in
    let t = sym (complete_is w s.settings r s.maker s.fed bytes h) ∙ ap (is_complete r.left r.plan.kind.channels) (sym len) ∙ sym c.is_complete.ensures ∙ c.if-is_complete.false in
    let some = cut_fault w s.settings r s.maker s.fed bytes h t in
    (some, subst (Appends (g.K.Sink.held c.args.output.now) (g.K.Sink.held c.settle.new.output)) (sym (cut_is w s.settings r s.maker s.fed bytes h taking.going _ some)) (c.in-Ok-settle.ensures.settled _ h.batches h.made))

pub returns-in-Err-settle-clause-ends : goal.returns-in-Err-settle-clause-ends
returns-in-Err-settle-clause-ends g c = λ bytes stands.
    let w = pair_work in
    let s = c.args.session.now in
    let r = c.in-Some.recording in
    let h : AmongSamples w s.settings r s.maker s.fed bytes = subst (StandsBy w s bytes) c.in-Some.is stands in
    let taking : IsTaking w r s.maker s.fed = subst (GoesBy w s) c.in-Some.is c.requires.goes in
    let len = c.len.ensures ∙ s.maker.framer.held.ok.0 in
    let t = sym (complete_is w s.settings r s.maker s.fed bytes h) ∙ ap (is_complete r.left r.plan.kind.channels) (sym len) ∙ sym c.is_complete.ensures ∙ c.if-is_complete.false in
    let some = cut_fault w s.settings r s.maker s.fed bytes h t in
    subst (AppendsFront (g.K.Sink.held c.args.output.now) (g.K.Sink.held c.settle.new.output)) (sym (cut_is w s.settings r s.maker s.fed bytes h taking.going _ some)) (c.in-Err-settle.ensures.settled _ h.batches h.made)
