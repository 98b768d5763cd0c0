use Rattle.std.proofs.Common.{arith}
use Rattle.band_energy.proofs.LastRounds.{row_more}
use Rattle.band_energy.proofs.last_walk.row_of_rounds.Goals as goal

pub loop-band-preserved : goal.loop-band-preserved
loop-band-preserved c = row_more c.args.first c.args.second c.loop-band.bits c.loop-band.band c.either.result (omega arith) c.either.ensures c.loop-band.invariant
