use Rattle.std.proofs.Common.{sym}
use Rattle.ogg_pages.specs.Views.{page_in}
use Rattle.opus_stream.proofs.Placing.{fault_unordered}
use Rattle.opus_stream.proofs.accepting.accept.Goals as goal

pub returns-in-Some-clause-answer : goal.returns-in-Some-clause-answer
returns-in-Some-clause-answer c = λ before stands.
    fault_unordered c.args.progress before (page_in c.args.page.now) c.in-Some.fault stands.placed c.requires.going (sym c.in-Some.ensures)
