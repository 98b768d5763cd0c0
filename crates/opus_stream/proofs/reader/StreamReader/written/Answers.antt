use Rattle.std.proofs.Common.{sym, ◌∙◌, ap, subst}
use Rattle.opus_stream.specs.Acceptance.{last_span}
use Rattle.opus_stream.specs.Readers.{StandsFor}
use Rattle.opus_stream.specs.contracts.reader.StreamReader.{the_view}
use Rattle.opus_stream.proofs.Reading as reading
use Rattle.opus_stream.proofs.reader.StreamReader.written.Goals as goal

pub returns-clause-span : goal.returns-clause-span
returns-clause-span c = λ bytes given s.
    let t = subst (λ r. StandsFor r bytes given) (sym c.self.view_is) s in
    t.holds.gives.span ∙ ap last_span (sym (reading.given_is (the_view c.self.inside) bytes given t))
