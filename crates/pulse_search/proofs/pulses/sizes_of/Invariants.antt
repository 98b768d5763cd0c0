use Rattle.std.proofs.Common.{◌≡◌}
use Rattle.std.specs.Prelude.{map, replicate, unsigned_abs}
use Rattle.pulse_search.proofs.FrontSteps.{over}
use Rattle.pulse_search.proofs.pulses.sizes_of.Given as goal

abbrev pub invariant-loop-i : goal.invariant-loop-i
invariant-loop-i l = l.sizes ≡ over l.i (map unsigned_abs l.x) (replicate 176 0)
