use Rattle.frame_symbols.proofs.OpeningSteps.{comb_is}
use Rattle.frame_symbols.proofs.opening.post_filter_of.Goals as goal

pub returns-clause-is : goal.returns-clause-is
returns-clause-is c = comb_is c.args.octave c.args.place c.args.gain c.args.tapset c.requires.octave c.requires.place c.requires.gain c.requires.tapset
