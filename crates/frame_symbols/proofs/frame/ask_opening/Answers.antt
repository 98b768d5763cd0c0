use Rattle.frame_symbols.proofs.FrameSteps.{opening_walked}
use Rattle.frame_symbols.proofs.frame.ask_opening.Goals as goal

pub returns-clause-walked : goal.returns-clause-walked
returns-clause-walked g c =
    opening_walked c.args.kind c.args.budget c.ask_filter-post_filter.result c.ask_transient-transient.result c.ask_bit_within-intra.result
    c.ask_filter-post_filter.ensures.walked c.ask_transient-transient.ensures.walked c.ask_bit_within-intra.ensures.walked
