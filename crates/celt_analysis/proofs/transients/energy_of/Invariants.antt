use Rattle.std.specs.Prelude.{◌≡◌, ◌*◌, ◌^◌, ◌≤◌}
use Rattle.std.specs.Int.{int_shr}
use Rattle.fixed_math.specs.Items.{item}
use Rattle.celt_analysis.specs.Sums.{energy}
use Rattle.celt_analysis.proofs.transients.energy_of.Given as goal

abbrev pub invariant-loop-t : goal.invariant-loop-t
invariant-loop-t l = record {
  value : l.sum ≡ energy (λ t. int_shr (item l.values t) 12) (120 * l.b) l.t;
  size : l.sum ≤ 2 ^ 34 * l.t;
}
