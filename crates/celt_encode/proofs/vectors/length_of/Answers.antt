use Rattle.std.proofs.Common.{arith}
use Rattle.celt_encode.proofs.VectorSteps.{root_within}
use Rattle.celt_encode.proofs.vectors.length_of.Goals as goal

pub returns-clause-size : goal.returns-clause-size
returns-clause-size c = let e = root_within c.sum_of_squares.result c.sum_of_squares.ensures.size in let f = c.isq.ensures in omega (arith, e, f)
