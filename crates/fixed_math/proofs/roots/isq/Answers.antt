use Rattle.std.proofs.Common.{arith}
use Rattle.fixed_math.proofs.RootLemmas.{root_from}
use Rattle.fixed_math.proofs.roots.isq.Goals as goal

pub returns-then-v-le18446744073709551615 : goal.returns-then-v-le18446744073709551615
returns-then-v-le18446744073709551615 c = root_from c.args.v c.narrow_root.result (omega arith) c.narrow_root.ensures

pub returns-else-v-le18446744073709551615 : goal.returns-else-v-le18446744073709551615
returns-else-v-le18446744073709551615 c = root_from c.args.v c.wide_root.result (omega arith) c.wide_root.ensures
