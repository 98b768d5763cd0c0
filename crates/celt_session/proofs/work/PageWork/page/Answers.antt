use Rattle.celt_session.proofs.Choosing.{samples_works, lines_works}
use Rattle.celt_session.proofs.work.PageWork.page.Goals as goal

pub returns-in-Samples-clause-works : goal.returns-in-Samples-clause-works
returns-in-Samples-clause-works g c = λ s heard shows given.
    samples_works c.args.self.now c.in-Samples.samples c.page.new.self heard (g.K.Sink.held c.args.output.now) (g.K.Sink.held c.page.new.output) c.page.result s c.in-Samples.is
    (λ t h. c.page.ensures.works t heard h given) shows

pub returns-in-Lines-clause-works : goal.returns-in-Lines-clause-works
returns-in-Lines-clause-works g c = λ s heard shows given.
    lines_works c.args.self.now c.in-Lines.lines c.page-in-Lines.new.self heard (g.K.Sink.held c.args.output.now) (g.K.Sink.held c.page-in-Lines.new.output) c.page-in-Lines.result s c.in-Lines.is
    (λ t h. c.page-in-Lines.ensures.works t heard h given) shows
