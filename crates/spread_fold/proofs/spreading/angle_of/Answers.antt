use Rattle.spread_fold.specs.Spreading.{spread_angle}
use Rattle.spread_fold.proofs.SpreadLemmas.{divisor_size}
use Rattle.spread_fold.proofs.spreading.angle_of.Goals as goal

pub share_of-requires-clause-most : goal.share_of-requires-clause-most
share_of-requires-clause-most c = divisor_size c.args.n c.args.k c.args.spread c.requires.count c.requires.pulses

pub returns-clause-value : goal.returns-clause-value
unfolding spread_angle
returns-clause-value c = c.share_of.ensures.value
