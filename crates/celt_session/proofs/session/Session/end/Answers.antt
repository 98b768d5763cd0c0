use Rattle.std.proofs.Common.{length, sym, ◌∙◌, subst}
use Rattle.opus_stream.specs.Acceptance.{accepted}
use Rattle.opus_stream.specs.Readers.{StandsFor as ReadsTo}
use Rattle.celt_session.proofs.Starting.{going, end_is}
use Rattle.celt_session.specs.PageWorks.{page_work}
use Rattle.celt_session.proofs.session.Session.end.Goals as goal

pub returns : goal.returns
returns c = λ start bytes stands.
    let f = going page_work start c.args.self.now bytes c.requires.going stands in
    c.end.ensures bytes (length (accepted bytes)) (subst (λ s. ReadsTo s.reader bytes (length (accepted bytes))) (sym c.self.view_is) f.along.reads)
    ∙ end_is page_work start c.args.self.now.reader c.args.self.now.work bytes f
