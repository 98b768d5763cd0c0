use Rattle.celt_analysis.proofs.EnergyLemmas.{RowTo}
use Rattle.celt_analysis.proofs.energies.targets.Given as goal

abbrev pub invariant-loop-band : goal.invariant-loop-band
invariant-loop-band l = RowTo l.end l.blocks l.spectrum l.row l.band
