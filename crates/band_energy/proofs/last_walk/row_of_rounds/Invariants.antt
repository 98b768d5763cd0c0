use Rattle.band_energy.proofs.LastRounds.{RowBy}
use Rattle.band_energy.proofs.last_walk.row_of_rounds.Given as goal

abbrev pub invariant-loop-band : goal.invariant-loop-band
invariant-loop-band l = RowBy l.fn.first l.second l.bits l.band
