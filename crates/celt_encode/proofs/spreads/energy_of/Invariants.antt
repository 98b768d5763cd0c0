use Rattle.std.proofs.Common.{◌≡◌}
use Rattle.std.specs.Prelude.{sum_by, take}
use Rattle.fixed_math.specs.Unit.{square}
use Rattle.celt_encode.proofs.spreads.energy_of.Given as goal

abbrev pub invariant-loop-i : goal.invariant-loop-i
invariant-loop-i l = l.sum ≡ sum_by square (take l.i l.band)
