use Rattle.celt_encode.proofs.UnitLemmas.{BandsTo}
use Rattle.celt_encode.proofs.units.put_bands.Given as goal

abbrev pub invariant-loop-band : goal.invariant-loop-band
invariant-loop-band l = BandsTo l.kind l.spectrum l.row l.band
