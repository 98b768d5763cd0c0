use Rattle.celt_session.specs.EncoderPairs.{pair_work}
use Rattle.std.proofs.Common.{sym, subst}
use Rattle.celt_base.specs.Outside.{WritesAll}
use Rattle.celt_session.specs.FrameSessions.{StandsBy, GoesBy, AmongSamples, BeforeSamples, IsTaking}
use Rattle.celt_session.proofs.EndOfFile.{running_none, running_is}
use Rattle.celt_session.proofs.concluding.settle_session.Goals as goal

pub returns-in_default-clause-settled : goal.returns-in_default-clause-settled
returns-in_default-clause-settled g c = λ bytes stands.
    let w = pair_work in
    let s = c.args.session.now in
    let h : BeforeSamples w s bytes = subst (StandsBy w s bytes) c.in_default.is stands in
    running_none w.function s.settings bytes h.between (g.K.Sink.held c.args.output.now) h.unfinished

pub returns-clause-settled : goal.returns-clause-settled
returns-clause-settled g c = λ bytes stands.
    let w = pair_work in
    let s = c.args.session.now in
    let r = c.in-Some.recording in
    let h : AmongSamples w s.settings r s.maker s.fed bytes = subst (StandsBy w s bytes) c.in-Some.is stands in
    let taking : IsTaking w r s.maker s.fed = subst (GoesBy w s) c.in-Some.is c.requires.goes in
    subst (WritesAll (g.K.Sink.held c.args.output.now) (g.K.Sink.held c.settle.new.output) c.settle.result) (sym (running_is w s.settings r s.maker s.fed bytes h taking.going)) (c.settle.ensures.settled _ h.batches h.made)
