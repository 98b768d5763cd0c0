use Rattle.std.proofs.Common.{arith, ◌≡◌, ◌+◌}
use Rattle.pulse_vectors.proofs.Counts.{count_grows}
use Rattle.pulse_vectors.proofs.ranks.row_of.Goals as goal

pub up-requires-clause-fits : goal.up-requires-clause-fits
up-requires-clause-fits c =
    let e : c.loop.row.pulses ≡ c.args.pulses = c.loop.invariant.1 in
    rw e (omega (arith, c.requires.fits, count_grows (c.loop.row.numbers + 1) c.args.numbers c.args.pulses (omega arith)))
