use Rattle.std.proofs.Common.{sym, subst}
use Rattle.celt_session.specs.Decoding.{start_of}
use Rattle.celt_session.specs.Decoders.{Decoder, StandsFor}
use Rattle.celt_session.proofs.decoding.DecodeSession.feed.Goals as goal

pub returns-clause-feeds : goal.returns-clause-feeds
returns-clause-feeds g c = λ bytes stands.
    c.feed.ensures.adds (start_of c.self.inside.settings) bytes (subst (λ (d : Decoder). StandsFor d bytes) (sym c.self.view_is) stands)
