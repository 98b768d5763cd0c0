use Rattle.band_energy.proofs.EnergyLaws.{coarse_most, fine_most, last_most}
use Rattle.band_energy.proofs.laws.law_energy_questions.Goals as goal

pub returns-clause-coarse : goal.returns-clause-coarse
returns-clause-coarse c = coarse_most

pub returns-clause-fine : goal.returns-clause-fine
returns-clause-fine c = fine_most

pub returns-clause-last : goal.returns-clause-last
returns-clause-last c = last_most
