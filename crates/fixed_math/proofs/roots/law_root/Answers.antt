use Rattle.std.proofs.Common.{arith}
use Rattle.fixed_math.proofs.RootLemmas.{root-is}
use Rattle.fixed_math.proofs.roots.law_root.Goals as goal

pub returns : goal.returns
returns c = root-is c.args.v (omega arith)
