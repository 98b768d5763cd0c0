use Rattle.frame_symbols.proofs.BoostSteps.{trim_walked}
use Rattle.frame_symbols.proofs.boosts.ask_trim.Goals as goal

pub returns-clause-walked : goal.returns-clause-walked
returns-clause-walked g c =
    trim_walked c.args.eighths c.args.boosts.now.taken c.args.boosts.now.boosts c.requires.taken c.ask_number_within_eighths.ensures.walked
