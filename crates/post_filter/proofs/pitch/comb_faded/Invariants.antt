use Rattle.std.specs.Prelude.{◌+◌}
use Rattle.post_filter.specs.Comb.{term}
use Rattle.post_filter.proofs.OutputLemmas.{Going}
use Rattle.post_filter.proofs.pitch.comb_faded.Given as goal

abbrev pub invariant-loop-i : goal.invariant-loop-i
invariant-loop-i l = Going (λ j vs. term l.fn.from l.fn.to j vs (l.at + j)) l.at l.i l.fn.buf l.buf
