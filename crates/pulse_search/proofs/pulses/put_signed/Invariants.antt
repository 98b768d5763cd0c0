use Rattle.std.proofs.Common.{◌≡◌}
use Rattle.pulse_search.specs.Pulses.{signed_all}
use Rattle.pulse_search.proofs.FrontSteps.{over}
use Rattle.pulse_search.proofs.pulses.put_signed.Given as goal

abbrev pub invariant-loop-i : goal.invariant-loop-i
invariant-loop-i l = l.out ≡ over l.i (signed_all l.x l.pulses) l.fn.out
