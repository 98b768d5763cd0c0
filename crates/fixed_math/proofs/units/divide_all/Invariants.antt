use Rattle.std.proofs.Common.{◌≡◌, ◌++◌}
use Rattle.std.specs.Prelude.{map, take, drop, ◌*ℤ◌, int_div}
use Rattle.fixed_math.proofs.units.divide_all.Given as goal

-- the items so far are quotients, and the others as they were
abbrev pub invariant-loop-i : goal.invariant-loop-i
invariant-loop-i l = l.v ≡ map (λ x. int_div (x *ℤ l.gain) l.r) (take l.i l.fn.v) ++ drop l.i l.fn.v
