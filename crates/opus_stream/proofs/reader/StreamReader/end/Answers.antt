use Rattle.std.proofs.Common.{sym, ◌∙◌, ap, Some}
use Rattle.opus_stream.specs.Readers.{Reader}
use Rattle.opus_stream.proofs.Reading as reading
use Rattle.opus_stream.proofs.reader.StreamReader.end.Goals as goal

pub returns-then-self : goal.returns-then-self
returns-then-self c = λ bytes given s.
    let e = sym c.self.view_is in
    reading.end_done c.args.self.now bytes s.front c.requires (ap (λ (r : Reader). r.progress.is_ended) e ∙ c.if-self.true) s.holds

pub returns-else-self : goal.returns-else-self
returns-else-self c = λ bytes given s.
    let e = sym c.self.view_is in
    ap Some (c.fault.ensures ∙ ap (λ (r : Reader). record { name = Rattle.celt_base.specs.declared.status.FaultName.TheVariants.Truncated; at = r.progress.pages }) (sym e))
    ∙ reading.end_open c.args.self.now bytes s.front c.requires (ap (λ (r : Reader). r.progress.is_ended) e ∙ c.if-self.false) s.holds
