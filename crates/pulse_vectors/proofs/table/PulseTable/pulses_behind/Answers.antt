use Rattle.std.proofs.Common.{arith}
use Rattle.pulse_vectors.proofs.Counts.{below-positive}
use Rattle.pulse_vectors.proofs.table.PulseTable.pulses_behind.Goals as goal

pub overflow_sub-behind : goal.overflow_sub-behind
overflow_sub-behind c = below-positive c.args.numbers _ (omega arith)

pub loop-behind-smaller : goal.loop-behind-smaller
loop-behind-smaller c = let some = below-positive c.args.numbers c.loop-behind.behind (omega arith) in omega arith
