use Rattle.std.proofs.Common.{length, ◌-◌}
use Rattle.celt_cli.proofs.Digits.{Counted}
use Rattle.celt_cli.proofs.words.number.Given as goal

abbrev pub invariant-loop-next : goal.invariant-loop-next
invariant-loop-next l = Counted l.text l.next l.number

abbrev pub decreases-loop-next : goal.decreases-loop-next
decreases-loop-next l = length l.text - l.next
