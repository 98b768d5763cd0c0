use Rattle.bit_allocation.specs.Counts.{boosted_of}
use Rattle.celt_base.proofs.Fronts.{IsFront}
use Rattle.bit_allocation.proofs.bands.boosted.Given as goal

abbrev pub invariant-loop-band : goal.invariant-loop-band
invariant-loop-band l = IsFront 0 l.amounts (boosted_of l.bands.request l.quality) l.band
