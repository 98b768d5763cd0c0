use Rattle.std.proofs.Common.{sym, ◌∙◌, ap, subst}
use Rattle.opus_stream.specs.Tests.{is_ended}
use Rattle.opus_stream.specs.Readers.{StandsFor}
use Rattle.opus_stream.specs.contracts.reader.StreamReader.{the_view}
use Rattle.opus_stream.proofs.Reading as reading
use Rattle.opus_stream.proofs.reader.StreamReader.ended.Goals as goal

pub returns-clause-ended : goal.returns-clause-ended
returns-clause-ended c = λ bytes given s.
    let t = subst (λ r. StandsFor r bytes given) (sym c.self.view_is) s in
    t.holds.progress.placed.ended ∙ ap is_ended (sym (reading.given_is (the_view c.self.inside) bytes given t))
