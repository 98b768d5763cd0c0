use Rattle.std.specs.Prelude.{◌≡◌, ◌*◌, ◌^◌, ◌≤◌}
use Rattle.fixed_math.specs.Items.{item}
use Rattle.celt_analysis.specs.Sums.{energy}
use Rattle.celt_analysis.proofs.energies.energy_of.Given as goal

abbrev pub invariant-loop-i : goal.invariant-loop-i
invariant-loop-i l = record {
  value : l.sum ≡ energy (item l.spectrum) l.from l.i;
  size : l.sum ≤ 2 ^ 76 * l.i;
}
