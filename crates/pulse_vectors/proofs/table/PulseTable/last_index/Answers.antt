use Rattle.std.proofs.Common.{arith}
use Rattle.pulse_vectors.proofs.CostSteps.{last-is, last-most}
use Rattle.pulse_vectors.proofs.table.PulseTable.last_index.Goals as goal

pub overflow_sub-result : goal.overflow_sub-result
overflow_sub-result c =
    omega (arith, last-most c.args.numbers, last-is c.args.numbers (omega arith) (omega arith), c.cost_start_of.ensures, c.cost_start_of-2.ensures)

pub overflow_sub-result-2 : goal.overflow_sub-result-2
overflow_sub-result-2 c =
    omega (arith, last-most c.args.numbers, last-is c.args.numbers (omega arith) (omega arith), c.cost_start_of.ensures, c.cost_start_of-2.ensures)

pub overflow_cast-result : goal.overflow_cast-result
overflow_cast-result c =
    omega (arith, last-most c.args.numbers, last-is c.args.numbers (omega arith) (omega arith), c.cost_start_of.ensures, c.cost_start_of-2.ensures)

pub returns-clause-exact : goal.returns-clause-exact
returns-clause-exact c = omega (arith, last-is c.args.numbers (omega arith) (omega arith), c.cost_start_of.ensures, c.cost_start_of-2.ensures)

pub returns-clause-most : goal.returns-clause-most
returns-clause-most c = omega (arith, last-most c.args.numbers, last-is c.args.numbers (omega arith) (omega arith), c.cost_start_of.ensures, c.cost_start_of-2.ensures)
