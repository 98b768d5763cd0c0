use Rattle.fixed_math.proofs.UnitLemmas.{reciprocal-is}
use Rattle.fixed_math.proofs.units.reciprocal.Goals as goal

pub returns : goal.returns
returns c = reciprocal-is c.args.g c.args.r c.requires.gain c.requires.length
