use Rattle.std.proofs.Common.{◌≤◌}
use Rattle.std.specs.Prelude.{pos, ◌+ℤ◌, All, take}
use Rattle.std.specs.Int.{w64, cast_unsigned}
use Rattle.fixed_math.proofs.units.are_small.Given as goal

-- no item so far has more bits
abbrev pub invariant-loop-i : goal.invariant-loop-i
invariant-loop-i l = All (λ x. cast_unsigned w64 (x +ℤ pos 131072) ≤ l.bits) (take l.i l.v)
