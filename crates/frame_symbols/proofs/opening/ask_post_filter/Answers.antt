use Rattle.frame_symbols.proofs.OpeningSteps.{comb_walked}
use Rattle.frame_symbols.proofs.opening.ask_post_filter.Goals as goal

pub returns-clause-walked : goal.returns-clause-walked
returns-clause-walked g c =
    comb_walked c.args.budget c.ask_number-octave.result c.ask_number-place.result c.ask_number-gain.result c.ask_number_within-tapset.result c.post_filter_of.result
    c.post_filter_of.ensures.value c.ask_number-octave.ensures.walked c.ask_number-place.ensures.walked c.ask_number-gain.ensures.walked c.ask_number_within-tapset.ensures.walked
