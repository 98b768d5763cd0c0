use Rattle.band_energy.specs.EnergyScripts.{fine_script}
use Rattle.band_energy.proofs.EnergyTables.{walked_rows}
use Rattle.band_energy.proofs.fine_walk.fine.Goals as goal

pub returns-clause-walked : goal.returns-clause-walked
unfolding fine_script
returns-clause-walked g c = walked_rows c.args.kind c.ask_fine-out.ensures.walked
