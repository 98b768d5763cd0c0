use Rattle.std.proofs.Common.{arith, ap, ◌+◌, ◌∙◌}
use Rattle.pulse_vectors.specs.Tables.{cost_entry}
use Rattle.pulse_vectors.proofs.CostSteps.{last-is, costs-end, cost-is}
use Rattle.pulse_vectors.proofs.table.PulseTable.cost.Goals as goal

pub overflow_add-cost_start_of : goal.overflow_add-cost_start_of
overflow_add-cost_start_of c =
    omega (arith, last-is c.args.numbers (omega arith) (omega arith), costs-end c.args.numbers (omega arith) (omega arith), c.cost_start_of.ensures, c.requires.index.1)

pub cost_entry-requires : goal.cost_entry-requires
cost_entry-requires c =
    omega (arith, last-is c.args.numbers (omega arith) (omega arith), costs-end c.args.numbers (omega arith) (omega arith), c.cost_start_of.ensures, c.requires.index.1)

pub returns-clause-exact : goal.returns-clause-exact
returns-clause-exact c =
    c.cost_entry.ensures ∙ ap (λ s. cost_entry (s + c.args.index)) c.cost_start_of.ensures ∙ (cost-is c.args.numbers c.args.index (omega arith) (omega arith) c.requires.index.1).0

pub returns-clause-most : goal.returns-clause-most
returns-clause-most c =
    let e = c.cost_entry.ensures ∙ ap (λ s. cost_entry (s + c.args.index)) c.cost_start_of.ensures in
    omega (arith, (cost-is c.args.numbers c.args.index (omega arith) (omega arith) c.requires.index.1).1)
