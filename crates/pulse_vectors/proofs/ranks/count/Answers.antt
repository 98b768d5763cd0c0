use Rattle.std.proofs.Common.{arith, ◌+◌}
use Rattle.pulse_vectors.proofs.Counts.{count_grows}
use Rattle.pulse_vectors.proofs.ranks.count.Goals as goal

-- The next row's count is past the limit, and the counts grow with the numbers.
pub returns-then-next_top-clause-fits : goal.returns-then-next_top-clause-fits
returns-then-next_top-clause-fits c = λ fits.
    let next = rw (c.loop.invariant.0, c.loop.invariant.1) at c.next_top.ensures in
    absurd (omega (arith, fits, next, count_grows (c.loop.counter + 1) c.args.n c.args.k (omega arith)))
