use Rattle.std.proofs.Common.{◌++◌, sym, subst}
use Rattle.celt_session.specs.EncodeSessions.{Recorder, StandsFor, Feeds, settings_of}
use Rattle.celt_session.proofs.encode_session.EncodeSession.feed.Goals as goal

pub returns-clause-feeds : goal.returns-clause-feeds
returns-clause-feeds g c = λ bytes stands.
    let held = g.K.Sink.held in
    subst (λ (s : Recorder). Feeds (settings_of s) bytes (bytes ++ c.args.piece.now) (record { held = c.feed_session.new.session }) (held c.args.output.now) (held c.feed_session.new.output) c.feed_session.result) c.self.view_is
    (c.feed_session.ensures.adds bytes (subst (λ (s : Recorder). StandsFor s bytes) (sym c.self.view_is) stands))
