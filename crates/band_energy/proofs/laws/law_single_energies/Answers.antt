use Rattle.band_energy.proofs.WantedLaws.{single}
use Rattle.band_energy.proofs.laws.law_single_energies.Goals as goal

pub returns : goal.returns
returns c = single
