use Rattle.std.proofs.Common.{◌≡◌, ◌+◌, ◌-◌, ◌*◌, ◌^◌, ◌≤◌}
use Rattle.celt_base.specs.Questions.{start, laplace_row, spread_of}
use Rattle.range_coder.proofs.answers.sides_at.Given as goal

abbrev pub invariant-loop-from : goal.invariant-loop-from
invariant-loop-from l =
    (l.from ≡ start (laplace_row l.fn.fs l.fn.decay) (2 * l.smaller + 1)) × (l.spread ≡ spread_of l.fn.fs l.fn.decay l.smaller)
    × (l.from ≤ l.fn.value) × (l.spread ≤ 2 ^ 14) × (l.smaller ≤ l.from)

abbrev pub decreases-loop-from : goal.decreases-loop-from
decreases-loop-from l = l.fn.value + 1 - l.from
