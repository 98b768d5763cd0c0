use Rattle.std.specs.Prelude.{◌+ℤ◌}
use Rattle.std.proofs.Common.{◌+◌}
use Rattle.fixed_math.specs.Items.{item}
use Rattle.celt_analysis.proofs.PlaceLemmas.{Put}
use Rattle.celt_analysis.proofs.karatsuba.sums.Given as goal

abbrev pub invariant-loop-i : goal.invariant-loop-i
invariant-loop-i l = Put (λ k. item l.fn.s (l.a + k) +ℤ item l.fn.s (l.b + k)) l.fn.s l.s l.to l.i
