use Rattle.std.proofs.Common.{arith}
use Rattle.band_shapes.proofs.CopyLemmas.{root_below}
use Rattle.band_shapes.proofs.copies.root_of.Goals as goal

pub overflow_cast-result : goal.overflow_cast-result
overflow_cast-result c = omega (arith, c.isq.ensures, root_below c.args.n c.requires)

pub returns-clause-value : goal.returns-clause-value
returns-clause-value c = c.isq.ensures

pub returns-clause-size : goal.returns-clause-size
returns-clause-size c = omega (arith, c.isq.ensures, root_below c.args.n c.requires)
