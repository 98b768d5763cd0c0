use Rattle.ogg_pages.specs.Views.{page_in}
use Rattle.opus_stream.specs.Accepted.{left_in}
use Rattle.opus_stream.proofs.Headers.{begin_refused, begin_passed}
use Rattle.opus_stream.proofs.accepting.begin.Goals as goal

pub returns-in-Ok-clause-answer : goal.returns-in-Ok-clause-answer
returns-in-Ok-clause-answer c = λ room before stands.
    begin_passed c.args.progress c.after.result room _ (page_in c.args.page.now) c.in-Ok.head before stands c.requires.first c.requires.going c.requires.ordered
    c.lacing.ensures.size c.in-Ok.ensures.0 c.in-Ok.ensures.1 c.after.ensures

pub returns-in-Err-clause-answer : goal.returns-in-Err-clause-answer
returns-in-Err-clause-answer c = λ room before stands.
    begin_refused c.args.progress (left_in room) (page_in c.args.page.now) c.in-Err.fault before stands c.requires.first c.requires.going c.requires.ordered c.in-Err.ensures
