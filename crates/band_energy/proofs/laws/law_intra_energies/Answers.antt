use Rattle.band_energy.proofs.EnergyLaws.{intra_same}
use Rattle.band_energy.proofs.laws.law_intra_energies.Goals as goal

pub returns : goal.returns
returns c = intra_same
