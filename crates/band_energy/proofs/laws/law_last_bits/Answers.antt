use Rattle.band_energy.proofs.EnergyLaws.{one_of_both, below_reached, first_reached, rounds_within}
use Rattle.band_energy.proofs.laws.law_last_bits.Goals as goal

pub returns-clause-one_round : goal.returns-clause-one_round
returns-clause-one_round c = one_of_both

pub returns-clause-below : goal.returns-clause-below
returns-clause-below c = below_reached

pub returns-clause-first : goal.returns-clause-first
returns-clause-first c = first_reached

pub returns-clause-within : goal.returns-clause-within
returns-clause-within c = rounds_within
