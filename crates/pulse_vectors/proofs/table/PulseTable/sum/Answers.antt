use Rattle.std.proofs.Common.{arith, ◌+◌, ap, ◌∙◌}
use Rattle.pulse_vectors.specs.Tables.{sum_at}
use Rattle.pulse_vectors.proofs.TableSteps.{place-inside, sum-here}
use Rattle.pulse_vectors.proofs.table.PulseTable.sum.Goals as goal

pub overflow_add-start_of : goal.overflow_add-start_of
overflow_add-start_of c = omega (arith, place-inside _ _ c.requires, c.start_of.ensures)

pub overflow_add-start_of-2 : goal.overflow_add-start_of-2
overflow_add-start_of-2 c = omega (arith, place-inside _ _ c.requires, c.start_of.ensures)

pub sum_at-requires : goal.sum_at-requires
sum_at-requires c = omega (arith, place-inside _ _ c.requires, c.start_of.ensures)

pub returns : goal.returns
returns c = c.sum_at.ensures ∙ ap (λ s. sum_at (s + c.args.pulses + 1)) c.start_of.ensures ∙ sum-here _ _ c.requires
