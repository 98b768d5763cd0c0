use Rattle.std.proofs.Common.{arith}
use Rattle.pulse_vectors.proofs.RankSteps.{count-one, front-pulse, back-pulse}
use Rattle.pulse_vectors.proofs.table.only_pulse.Goals as goal

pub overflow_sub-result : goal.overflow_sub-result
overflow_sub-result c = omega (arith, c.requires.below, count-one c.args.numbers)

pub overflow_sub-result-else-index-numbers : goal.overflow_sub-result-else-index-numbers
overflow_sub-result-else-index-numbers c = omega (arith, c.requires.below, count-one c.args.numbers)

pub returns-else-index-numbers-clause-place : goal.returns-else-index-numbers-clause-place
returns-else-index-numbers-clause-place c = omega (arith, c.requires.below, count-one c.args.numbers)

pub returns-then-index-numbers-clause-stands : goal.returns-then-index-numbers-clause-stands
returns-then-index-numbers-clause-stands c = front-pulse c.args.numbers c.args.index (omega arith)

pub returns-else-index-numbers-clause-stands : goal.returns-else-index-numbers-clause-stands
returns-else-index-numbers-clause-stands c = back-pulse c.args.numbers _ c.args.index (omega (arith, c.requires.below, count-one c.args.numbers)) (omega (arith, c.requires.below, count-one c.args.numbers))
