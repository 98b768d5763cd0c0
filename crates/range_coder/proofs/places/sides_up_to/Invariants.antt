use Rattle.std.proofs.Common.{◌≡◌, ◌+◌, ◌-◌, ◌*◌, ◌^◌, ◌<◌, ◌≤◌}
use Rattle.celt_base.specs.Questions.{start, laplace_row, spread_of}
use Rattle.range_coder.proofs.places.sides_up_to.Given as goal

abbrev pub invariant-loop-from : goal.invariant-loop-from
invariant-loop-from l =
    (l.from ≡ start (laplace_row l.fn.fs l.fn.decay) (2 * l.smaller + 1)) × (l.spread ≡ spread_of l.fn.fs l.fn.decay l.smaller)
    × (l.from < 2 ^ 15) × (l.spread ≤ 2 ^ 14) × (l.smaller ≤ l.from) × (l.smaller < l.fn.size)

abbrev pub decreases-loop-from : goal.decreases-loop-from
decreases-loop-from l = 2 ^ 15 - l.from
