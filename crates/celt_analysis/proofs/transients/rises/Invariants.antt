use Rattle.std.specs.Prelude.{◌≡◌, ◌<◌, ◌^◌}
use Rattle.celt_analysis.specs.Transients.{energies_in, rises_within}
use Rattle.celt_analysis.proofs.transients.rises.Given as goal

abbrev pub invariant-loop-b : goal.invariant-loop-b
invariant-loop-b l = record {
  found : l.found ≡ rises_within (energies_in l.stereo l.left l.right) l.b;
  before : l.before ≡ energies_in l.stereo l.left l.right l.b;
  size : l.before < 2 ^ 42;
}
