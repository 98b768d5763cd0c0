use Rattle.std.specs.Prelude.{get_or}
use Rattle.bit_allocation.specs.Amounts.{threshold_of}
use Rattle.bit_allocation.proofs.CountLemmas.{reached_then}
use Rattle.bit_allocation.proofs.counting.is_reached.Goals as goal

pub returns-then-bands-band : goal.returns-then-bands-band
returns-then-bands-band c =
    reached_then (get_or c.args.bands.now.thresholds c.args.band 0) (threshold_of c.args.bands.now.request.kind c.args.band) c.args.amount c.args.above
    (c.args.bands.now.thresholds_are c.args.band c.requires) c.if-bands-band.true
