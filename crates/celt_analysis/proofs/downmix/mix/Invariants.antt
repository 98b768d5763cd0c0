use Rattle.std.proofs.Common.{◌+◌, ◌*◌}
use Rattle.std.specs.Prelude.{◌+ℤ◌}
use Rattle.std.specs.Int.{int_shr}
use Rattle.fixed_math.specs.Items.{item}
use Rattle.celt_analysis.proofs.PlaceLemmas.{Over}
use Rattle.celt_analysis.proofs.downmix.mix.Given as goal

abbrev pub invariant-loop-i : goal.invariant-loop-i
invariant-loop-i l = Over (λ k. int_shr (item l.window (2 * (123 + k)) +ℤ item l.window (2 * (123 + k) + 1)) 1) l.fn.out l.out l.i
