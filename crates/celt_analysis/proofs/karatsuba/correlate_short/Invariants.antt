use Rattle.std.proofs.Common.{◌+◌}
use Rattle.std.specs.Int.{w32, int_wrap}
use Rattle.fixed_math.specs.Items.{item}
use Rattle.celt_analysis.specs.Sums.{correlation}
use Rattle.celt_analysis.proofs.PlaceLemmas.{Put}
use Rattle.celt_analysis.proofs.karatsuba.correlate_short.Given as goal

abbrev pub invariant-loop-t : goal.invariant-loop-t
invariant-loop-t l = Put (λ k. int_wrap w32 (correlation (item l.s) (item l.s) (l.at + k) l.from 64)) l.fn.out l.out l.to l.t
