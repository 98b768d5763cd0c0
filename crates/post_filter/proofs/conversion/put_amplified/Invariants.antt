use Rattle.std.specs.Prelude.{ℤ}
use Rattle.post_filter.specs.Samples.{IsFactor, ArePut}
use Rattle.post_filter.proofs.conversion.put_amplified.Given as goal

abbrev pub invariant-loop-i : goal.invariant-loop-i
invariant-loop-i l = (gain : ℤ) → IsFactor gain l.factor → ArePut gain l.x l.start l.stride l.i l.fn.out l.out
