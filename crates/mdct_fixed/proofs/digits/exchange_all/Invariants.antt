use Rattle.std.proofs.Common.{◌*◌, length}
use Rattle.mdct_fixed.specs.Numbers.{at}
use Rattle.mdct_fixed.proofs.DigitLemmas.{IsArranged}
use Rattle.mdct_fixed.proofs.digits.exchange_all.Given as goal

-- the first places have their items
abbrev pub invariant-loop-k : goal.invariant-loop-k
invariant-loop-k l = IsArranged l.partners (length l.partners) (2 * l.k) (at l.fn.re l.fn.im) (at l.re l.im)
