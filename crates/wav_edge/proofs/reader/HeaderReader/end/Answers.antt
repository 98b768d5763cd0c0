use Rattle.std.proofs.Common.{true, false, sym, ap, ◌∙◌, Option, Some}
use Rattle.celt_base.specs.declared.status.Fault.{Fault}
use Rattle.celt_base.specs.declared.status.FaultName.{FaultName}
use Rattle.wav_edge.proofs.ReaderLemmas.{ends_at}
use Rattle.wav_edge.proofs.reader.HeaderReader.end.Goals as goal
use Rattle.wav_edge.proofs.reader.HeaderReader.end.Goals.{then-is_between, else-is_between}

pub returns : goal.returns
returns c = λ bytes stands.
    let reader = c.args.self.now in
    let named : FaultName → Option Fault = λ name. Some (record { name = name; at = reader.fed }) in
    elim c.if-is_between.branch [
      | then-is_between w ↦ ends_at reader bytes true c.requires.unread c.requires.sound stands w.if-is_between.ensures ∙ ap named (sym w.name-is)
      | else-is_between w ↦ ends_at reader bytes false c.requires.unread c.requires.sound stands w.if-is_between.ensures ∙ ap named (sym w.name-is)
    ]
