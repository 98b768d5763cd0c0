use Rattle.std.proofs.Common.{refl}
use Rattle.post_filter.specs.Comb.{scaled}
use Rattle.post_filter.proofs.TapLemmas.{scaled_most}
use Rattle.post_filter.proofs.taps.share_of.Goals as goal

pub returns-clause-value : goal.returns-clause-value
unfolding scaled
returns-clause-value c = refl

pub returns-clause-size : goal.returns-clause-size
unfolding scaled
returns-clause-size c = scaled_most c.args.a c.args.b c.requires.first
