use Rattle.std.specs.Prelude.{◌≡◌, ◌^◌, length}
use Rattle.celt_analysis.specs.Energies.{height_of}
use Rattle.celt_analysis.proofs.FillLemmas.{Filled}
use Rattle.celt_analysis.proofs.energies.greater.Given as goal

abbrev pub invariant-loop-b : goal.invariant-loop-b
invariant-loop-b l = record {
  count : length l.row ≡ 21;
  filled : Filled (height_of l.left l.right) (2 ^ 15) l.b l.row;
}
