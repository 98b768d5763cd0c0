use Rattle.band_energy.specs.EnergyScripts.{coarse_script}
use Rattle.band_energy.proofs.EnergyTables.{walked_rows}
use Rattle.band_energy.proofs.coarse_walk.coarse.Goals as goal

pub returns-clause-walked : goal.returns-clause-walked
unfolding coarse_script
returns-clause-walked g c = walked_rows c.args.kind c.ask_energies-out.ensures.walked
