use Rattle.std.proofs.Common.{◌-◌}
use Rattle.pulse_vectors.proofs.RowSteps.{Changing}
use Rattle.pulse_vectors.proofs.row.Row.down.Given as goal

abbrev pub invariant-loop-count : goal.invariant-loop-count
invariant-loop-count l = Changing l.fn.self.numbers (l.fn.self.numbers - 1) l.count-items l.count-index l.last l.before
