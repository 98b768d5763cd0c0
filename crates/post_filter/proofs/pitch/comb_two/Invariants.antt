use Rattle.std.specs.Prelude.{◌+◌}
use Rattle.fixed_math.specs.Rounding.{rounded}
use Rattle.post_filter.specs.Comb.{echo}
use Rattle.post_filter.proofs.OutputLemmas.{Going}
use Rattle.post_filter.proofs.pitch.comb_two.Given as goal

abbrev pub invariant-loop-i : goal.invariant-loop-i
invariant-loop-i l = Going (λ j vs. rounded (echo l.taps.centre l.taps.near l.taps.far l.taps.period vs (l.at + j)) 15) l.at l.i l.fn.buf l.buf
