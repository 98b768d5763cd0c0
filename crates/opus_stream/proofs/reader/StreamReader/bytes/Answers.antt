use Rattle.std.proofs.Common.{sym, ◌∙◌, ap, subst}
use Rattle.opus_stream.specs.Acceptance.{last_bytes}
use Rattle.opus_stream.specs.Readers.{StandsFor}
use Rattle.opus_stream.specs.contracts.reader.StreamReader.{the_view}
use Rattle.opus_stream.proofs.Reading as reading
use Rattle.opus_stream.proofs.reader.StreamReader.bytes.Goals as goal

pub returns-clause-page : goal.returns-clause-page
returns-clause-page c = λ bytes given s.
    let t = subst (λ r. StandsFor r bytes given) (sym c.self.view_is) s in
    c.deref.ensures.value ∙ t.holds.page ∙ ap (last_bytes bytes) (sym (reading.given_is (the_view c.self.inside) bytes given t))
