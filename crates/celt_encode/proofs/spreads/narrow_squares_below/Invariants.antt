use Rattle.std.proofs.Common.{◌≡◌, ◌≤◌}
use Rattle.std.specs.Prelude.{count_by, take, nat_lt}
use Rattle.fixed_math.specs.Unit.{square}
use Rattle.celt_encode.proofs.spreads.narrow_squares_below.Given as goal

abbrev pub invariant-loop-i : goal.invariant-loop-i
invariant-loop-i l = (l.count ≡ count_by (λ x. nat_lt (square x) l.bound) (take l.i l.band)) × (l.count ≤ l.i)
