use Rattle.rate_change.specs.Digits.{AreDigits}
use Rattle.rate_change.proofs.sums.put_digits.Given as goal

abbrev pub invariant-loop-t : goal.invariant-loop-t
invariant-loop-t l = AreDigits l.t l.weights l.high l.middle l.low
