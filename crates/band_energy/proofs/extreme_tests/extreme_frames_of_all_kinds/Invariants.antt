use Rattle.celt_base.specs.Energies.{AreEnergies}
use Rattle.band_energy.proofs.extreme_tests.extreme_frames_of_all_kinds.Given as goal

abbrev pub invariant-loop-row : goal.invariant-loop-row
invariant-loop-row g l = AreEnergies l.energies
