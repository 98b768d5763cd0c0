use Rattle.std.proofs.Common.{refl}
use Rattle.range_coder.proofs.Showing.{narrowed_shows, narrowed_holds, narrowed_paces}
use Rattle.range_coder.proofs.window.Window.narrow.Goals as goal

pub returns-clause-shows : goal.returns-clause-shows
returns-clause-shows c =
    λ frame i part cut. narrowed_shows frame c.args.self _ i part c.args.lower c.args.upper cut c.requires.holds_upper c.requires.holds_lower refl refl refl refl refl

pub returns-clause-holds : goal.returns-clause-holds
returns-clause-holds c =
    λ frame i part cut. narrowed_holds frame c.args.self i part c.args.lower c.args.upper cut c.requires.holds_upper c.requires.holds_lower

pub returns-clause-pace : goal.returns-clause-pace
returns-clause-pace c = λ part cut. narrowed_paces c.args.self part c.args.lower c.args.upper _ _ cut refl refl
