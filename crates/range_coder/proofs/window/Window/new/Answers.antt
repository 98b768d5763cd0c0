use Rattle.std.proofs.Common.{arith, refl}
use Rattle.range_coder.proofs.Showing.{shows_whole}
use Rattle.range_coder.proofs.window.Window.new.Goals as goal

pub returns-clause-shows : goal.returns-clause-shows
returns-clause-shows c = shows_whole c.args.frame.now _ refl refl refl c.byte_at-last.ensures (omega arith)
