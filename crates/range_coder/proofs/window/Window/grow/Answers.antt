use Rattle.std.proofs.Common.{arith, refl}
use Rattle.range_coder.proofs.Showing.{wide_shows, wide_paces, more_shows, more_paces}
use Rattle.range_coder.specs.Windows.{window_pace}
use Rattle.range_coder.proofs.window.Window.grow.Goals as goal

pub returns-then-self-clause-shows : goal.returns-then-self-clause-shows
returns-then-self-clause-shows c = λ i. wide_shows c.args.frame.now c.args.self i (omega arith)

pub returns-then-self-clause-pace : goal.returns-then-self-clause-pace
returns-then-self-clause-pace c = wide_paces (window_pace c.args.self) (omega arith)

pub returns-clause-shows : goal.returns-clause-shows
returns-clause-shows c =
    λ i shows. more_shows c.args.frame.now c.args.self _ i (omega arith) (omega arith) (omega arith) refl (omega arith) refl refl c.byte_at-next.ensures shows

pub returns-clause-pace : goal.returns-clause-pace
returns-clause-pace c = more_paces c.args.self _ _ (omega arith) refl refl
