use Rattle.std.proofs.Common.{length, sym, ◌∙◌, ap, subst}
use Rattle.opus_stream.specs.Acceptance.{last_packets}
use Rattle.opus_stream.specs.Readers.{StandsFor}
use Rattle.opus_stream.specs.contracts.reader.StreamReader.{the_view}
use Rattle.opus_stream.proofs.Reading as reading
use Rattle.opus_stream.proofs.reader.StreamReader.packets.Goals as goal

pub returns-clause-count : goal.returns-clause-count
returns-clause-count c = λ bytes given s.
    let t = subst (λ r. StandsFor r bytes given) (sym c.self.view_is) s in
    t.holds.gives.packets.0 ∙ ap (λ l. length (last_packets l)) (sym (reading.given_is (the_view c.self.inside) bytes given t))
