use Rattle.std.proofs.Common.{arith}
use Rattle.fixed_math.proofs.PowerLemmas.{logarithm-is, logarithm-rises}
use Rattle.fixed_math.proofs.powers.law_logarithm.Goals as goal

pub returns-clause-greatest : goal.returns-clause-greatest
returns-clause-greatest c = logarithm-is c.args.v c.requires.some (omega arith)

pub returns-clause-rises : goal.returns-clause-rises
returns-clause-rises c = logarithm-rises c.args.v c.args.w c.requires.some c.requires.order c.requires.size
