use Rattle.band_energy.proofs.EnergyLaws.{entries}
use Rattle.band_energy.proofs.laws.law_energy_entries.Goals as goal

pub returns : goal.returns
returns c = entries
