use Rattle.std.proofs.Common.{refl}
use Rattle.range_coder.proofs.Cuts.{passed_shows, passed_paces}
use Rattle.range_coder.proofs.window.Window.pass_bits.Goals as goal

pub returns-clause-shows : goal.returns-clause-shows
returns-clause-shows c = λ frame i number. passed_shows frame c.args.self _ i c.args.count number refl refl refl refl refl

pub returns-clause-pace : goal.returns-clause-pace
returns-clause-pace c = λ number. passed_paces c.args.self _ c.args.count number refl
