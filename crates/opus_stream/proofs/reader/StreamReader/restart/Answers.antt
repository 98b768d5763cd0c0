use Rattle.std.proofs.Common.{refl, sym, ◌∙◌, ap, subst}
use Rattle.opus_stream.specs.Readers.{Reader, StandsFor}
use Rattle.opus_stream.specs.contracts.reader.StreamReader.{the_view}
use Rattle.std.proofs.lemmas.Bool.{eqb-true}
use Rattle.opus_stream.proofs.Reading as reading
use Rattle.opus_stream.proofs.reader.StreamReader.restart.Goals as goal

pub returns-clause-again : goal.returns-clause-again
returns-clause-again c = λ bytes given s.
    let t = subst (λ r. StandsFor r bytes given) (sym c.self.view_is) s in
    reading.begins_again (the_view c.self.inside) _ bytes given t (ap (λ (r : Reader). r.progress.is_ended) c.self.view_is ∙ c.requires) c.new-self-inside.ensures refl c.clear-2.ensures c.clear.ensures.items refl c.held-held.ensures refl (λ e. sym c.held-held.ensures ∙ eqb-true c.held-held.result 0 e)
