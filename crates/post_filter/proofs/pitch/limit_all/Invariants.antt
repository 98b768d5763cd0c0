use Rattle.std.specs.Prelude.{pos}
use Rattle.post_filter.proofs.OutputLemmas.{Going}
use Rattle.post_filter.proofs.pitch.limit_all.Given as goal

abbrev pub invariant-loop-i : goal.invariant-loop-i
invariant-loop-i l = Going (λ j vs. pos 0) l.at l.i l.fn.buf l.buf
