use Rattle.band_energy.proofs.WantedLaws.{coarse_nearest, fine_near, last_near}
use Rattle.band_energy.proofs.laws.law_wanted_energies.Goals as goal

pub returns-clause-coarse : goal.returns-clause-coarse
returns-clause-coarse c = coarse_nearest

pub returns-clause-fine : goal.returns-clause-fine
returns-clause-fine c = fine_near

pub returns-clause-last : goal.returns-clause-last
returns-clause-last c = last_near
