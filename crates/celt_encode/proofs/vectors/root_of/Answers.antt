use Rattle.std.proofs.Common.{arith}
use Rattle.celt_encode.proofs.VectorSteps.{root_within}
use Rattle.celt_encode.proofs.vectors.root_of.Goals as goal

pub returns-clause-size : goal.returns-clause-size
returns-clause-size c = let e = root_within c.args.energy c.requires in let f = c.isq.ensures in omega (arith, e, f)
