use Rattle.std.proofs.Common.{arith}
use Rattle.pulse_vectors.proofs.TableSteps.{count-by-two}
use Rattle.pulse_vectors.proofs.CostSteps.{count-some, count-place}
use Rattle.pulse_vectors.proofs.table.PulseTable.count.Goals as goal

pub sum-requires : goal.sum-requires
sum-requires c = count-place c.args.numbers c.args.pulses (omega arith) (omega arith) c.requires.pulses c.requires.fits

pub sum_below-requires : goal.sum_below-requires
sum_below-requires c = count-place c.args.numbers c.args.pulses (omega arith) (omega arith) c.requires.pulses c.requires.fits

pub overflow_add-result : goal.overflow_add-result
overflow_add-result c =
    let sum = count-by-two c.args.numbers _ _ _ _ (omega arith) c.sum.ensures c.sum_below.ensures in
    omega (arith, c.requires.fits)

pub returns-clause-exact : goal.returns-clause-exact
returns-clause-exact c = count-by-two c.args.numbers _ _ _ _ (omega arith) c.sum.ensures c.sum_below.ensures

pub returns-clause-some : goal.returns-clause-some
returns-clause-some c =
    omega (arith, count-by-two c.args.numbers _ _ _ _ (omega arith) c.sum.ensures c.sum_below.ensures, count-some c.args.numbers c.args.pulses (omega arith))
