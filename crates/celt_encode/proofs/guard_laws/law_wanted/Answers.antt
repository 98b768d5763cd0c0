use Rattle.celt_encode.proofs.PlaceProper.{coarse_proper, fine_proper, last_proper, skip_proper, pulses_proper, energy_proper}
use Rattle.celt_encode.proofs.guard_laws.law_wanted.Goals as goal

pub returns-clause-coarse : goal.returns-clause-coarse
returns-clause-coarse c = coarse_proper

pub returns-clause-fine : goal.returns-clause-fine
returns-clause-fine c = fine_proper

pub returns-clause-last : goal.returns-clause-last
returns-clause-last c = last_proper

pub returns-clause-skip : goal.returns-clause-skip
returns-clause-skip c = skip_proper

pub returns-clause-pulses : goal.returns-clause-pulses
returns-clause-pulses c = pulses_proper

pub returns-clause-energy : goal.returns-clause-energy
returns-clause-energy c = energy_proper
