use Rattle.std.proofs.Common.{sym, subst}
use Rattle.celt_session.specs.EncodeSessions.{Recorder, StandsFor, Concludes, settings_of}
use Rattle.celt_session.proofs.encode_session.EncodeSession.end.Goals as goal

pub returns-clause-ends : goal.returns-clause-ends
returns-clause-ends g c = λ bytes stands.
    let held = g.K.Sink.held in
    subst (λ (s : Recorder). Concludes (settings_of s) bytes (held c.args.output.now) (held c.end_session.new.output) c.end_session.result) c.self.view_is
    (c.end_session.ensures.ends bytes (subst (λ (s : Recorder). StandsFor s bytes) (sym c.self.view_is) stands))
