use Rattle.std.proofs.Common.{◌+◌}
use Rattle.std.specs.Prelude.{◌+ℤ◌}
use Rattle.std.specs.Int.{w32, int_wrap}
use Rattle.fixed_math.specs.Items.{item}
use Rattle.celt_analysis.proofs.PlaceLemmas.{Put}
use Rattle.celt_analysis.proofs.karatsuba.add_all.Given as goal

abbrev pub invariant-loop-i : goal.invariant-loop-i
invariant-loop-i l = Put (λ k. int_wrap w32 (item l.fn.out (l.to + k) +ℤ item l.fn.out (l.from + k))) l.fn.out l.out l.to l.i
