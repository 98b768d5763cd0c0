use Rattle.fixed_math.proofs.RoundingLemmas.{rounded_low, rounded_high}
use Rattle.fixed_math.proofs.kernels.law_rounded.Goals as goal

pub returns-clause-low : goal.returns-clause-low
returns-clause-low c = rounded_low c.args.z c.args.s

pub returns-clause-high : goal.returns-clause-high
returns-clause-high c = rounded_high c.args.z c.args.s c.requires
