use Rattle.std.proofs.Common.{subst, sym}
use Rattle.std.proofs.lemmas.Option.{none-some}
use Rattle.celt_session.specs.EncoderWorks.{Shows}
use Rattle.celt_session.proofs.PairSteps.{shown_mono}
use Rattle.celt_session.proofs.encoder_pair.EncoderPair.frames.Goals.{then-is_none+then-batch-eq1, else-is_none}
use Rattle.celt_session.proofs.encoder_pair.EncoderPair.frames.Goals as goal

pub returns-clause-works : goal.returns-clause-works
returns-clause-works g c = λ s shown.
    let before = c.args.self.now in
    let stands : Shows c.if-is_none.self.work s =
    elim c.if-is_none.branch [
      | then-is_none+then-batch-eq1 w ↦
          let on = shown_mono before c.args.batch.kind s c.is_none.result c.is_none.ensures w.if-is_none.true w.if-batch-eq1.true c.requires.kind shown in
          subst (λ p. Shows p.work s) (sym w.self-is) (w.turn.ensures.shows s on shown.work.earlier shown.work.last)
      | else-is_none w ↦ subst (λ p. Shows p.work s) (sym w.self-is) shown.work
    ] in
    let framed = c.frames.ensures.works s stands in
    record {
      shows = record { work = framed.shows; other = λ none. absurd (none-some c.args.batch.kind.channels (sym none)) };
      frames = framed.frames;
    }
