use Rattle.std.proofs.Common.{sym, ◌∙◌, ap, subst}
use Rattle.opus_stream.specs.Acceptance.{head_in}
use Rattle.opus_stream.specs.Readers.{StandsFor}
use Rattle.opus_stream.specs.contracts.reader.StreamReader.{the_view}
use Rattle.opus_stream.proofs.Beginning.{none_given}
use Rattle.opus_stream.proofs.Reading as reading
use Rattle.opus_stream.proofs.reader.StreamReader.head.Goals as goal

pub returns-clause-head : goal.returns-clause-head
returns-clause-head c = λ bytes given s.
    let t = subst (λ r. StandsFor r bytes given) (sym c.self.view_is) s in
    t.holds.progress.placed.head ∙ ap head_in (sym (reading.given_is (the_view c.self.inside) bytes given t))

pub returns-clause-none : goal.returns-clause-none
returns-clause-none c = λ bytes given s h.
    let t = subst (λ r. StandsFor r bytes given) (sym c.self.view_is) s in
    none_given (the_view c.self.inside) bytes given t (sym t.holds.progress.placed.head ∙ h)
