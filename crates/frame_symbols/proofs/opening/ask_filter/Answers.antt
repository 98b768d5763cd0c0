use Rattle.frame_symbols.proofs.OpeningSteps.{filter_on, filter_off}
use Rattle.frame_symbols.proofs.opening.ask_filter.Goals as goal

pub returns-then-ask_bit_within-clause-walked : goal.returns-then-ask_bit_within-clause-walked
returns-then-ask_bit_within-clause-walked g c =
    filter_on c.args.budget c.ask_post_filter.result c.ask_bit_within.result c.if-ask_bit_within.true c.ask_bit_within.ensures.walked c.ask_post_filter.ensures.walked

pub returns-clause-walked : goal.returns-clause-walked
returns-clause-walked g c =
    filter_off c.args.budget c.off.result c.ask_bit_within.result c.off.ensures c.if-ask_bit_within.false c.ask_bit_within.ensures.walked
