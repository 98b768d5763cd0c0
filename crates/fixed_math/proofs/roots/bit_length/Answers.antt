use Rattle.std.proofs.Common.{arith}
use Rattle.fixed_math.proofs.RootLemmas.{bit_length-leading}
use Rattle.fixed_math.proofs.roots.bit_length.Goals as goal

pub returns : goal.returns
returns c = bit_length-leading c.args.v (omega arith)
