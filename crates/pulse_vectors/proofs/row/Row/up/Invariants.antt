use Rattle.std.proofs.Common.{suc}
use Rattle.pulse_vectors.proofs.RowSteps.{Changing}
use Rattle.pulse_vectors.proofs.row.Row.up.Given as goal

abbrev pub invariant-loop-count : goal.invariant-loop-count
invariant-loop-count l = Changing l.fn.self.numbers (suc l.fn.self.numbers) l.count-items l.count-index l.last l.before
