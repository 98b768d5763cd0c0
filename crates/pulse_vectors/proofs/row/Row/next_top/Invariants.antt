use Rattle.pulse_vectors.proofs.Counts.{Summed}
use Rattle.pulse_vectors.proofs.row.Row.next_top.Given as goal

abbrev pub invariant-loop-j : goal.invariant-loop-j
invariant-loop-j l = Summed l.self.numbers l.j l.fewer
