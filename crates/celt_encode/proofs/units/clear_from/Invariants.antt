use Rattle.std.proofs.Common.{◌-◌, length}
use Rattle.celt_encode.proofs.UnitLemmas.{Cleared}
use Rattle.celt_encode.proofs.units.clear_from.Given as goal

abbrev pub invariant-loop-from : goal.invariant-loop-from
invariant-loop-from l = Cleared l.fn.row l.row l.at l.from

abbrev pub decreases-loop-from : goal.decreases-loop-from
decreases-loop-from l = length l.initial.row - l.from
