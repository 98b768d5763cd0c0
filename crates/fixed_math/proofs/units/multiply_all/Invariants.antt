use Rattle.std.proofs.Common.{◌≡◌, ◌++◌}
use Rattle.std.specs.Prelude.{map, take, drop, unsigned_abs}
use Rattle.fixed_math.specs.Unit.{by_reciprocal}
use Rattle.fixed_math.proofs.units.multiply_all.Given as goal

-- the items so far are products, and the others as they were
abbrev pub invariant-loop-i : goal.invariant-loop-i
invariant-loop-i l = l.v ≡ map (by_reciprocal (unsigned_abs l.m)) (take l.i l.fn.v) ++ drop l.i l.fn.v
