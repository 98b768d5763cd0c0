use Rattle.std.specs.Prelude.{◌≡◌, true}
use Rattle.celt_analysis.specs.Energies.{are_zero}
use Rattle.celt_analysis.proofs.energies.is_zero.Given as goal

abbrev pub invariant-loop-i : goal.invariant-loop-i
invariant-loop-i l = are_zero l.i l.spectrum ≡ true
