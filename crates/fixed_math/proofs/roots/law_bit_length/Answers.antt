use Rattle.std.proofs.Common.{arith}
use Rattle.fixed_math.proofs.RootLemmas.{bit_length-is}
use Rattle.fixed_math.proofs.roots.law_bit_length.Goals as goal

pub returns : goal.returns
returns c = bit_length-is c.args.v (omega arith)
