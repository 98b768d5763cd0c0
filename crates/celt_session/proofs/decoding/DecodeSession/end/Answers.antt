use Rattle.std.proofs.Common.{List, ℕ, ◌≡◌, subst}
use Rattle.celt_session.specs.PageFunctions.{end_fault}
use Rattle.celt_session.specs.Decoding.{start_of}
use Rattle.celt_session.specs.Decoders.{Decoder, StandsFor}
use Rattle.celt_session.proofs.decoding.DecodeSession.end.Goals as goal

pub returns : goal.returns
returns c =
    subst (λ (d : Decoder). (bytes : List ℕ) → StandsFor d bytes → c.end.result ≡ end_fault bytes) c.self.view_is
    (λ bytes stands. c.end.ensures (start_of c.self.inside.settings) bytes stands)
