use Rattle.celt_base.specs.Energies.{AreEnergies}
use Rattle.band_energy.proofs.tests.frames_of_all_kinds.Given as goal

abbrev pub invariant-loop-k : goal.invariant-loop-k
invariant-loop-k g l = AreEnergies l.energies
