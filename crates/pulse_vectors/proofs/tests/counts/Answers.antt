use Rattle.std.proofs.Common.{arith, refl, ◌≡◌, ◌+◌}
use Rattle.pulse_vectors.specs.Vectors.{count_of, vectors}
use Rattle.pulse_vectors.proofs.Counts.{count_grows}
use Rattle.pulse_vectors.proofs.tests.counts.Goals as goal

four_numbers : count_of 4 3 ≡ 88
unfolding count_of vectors
four_numbers = refl

pub up-requires-clause-fits : goal.up-requires-clause-fits
up-requires-clause-fits g c =
    let pulses : c.loop.row.pulses ≡ 3 = c.loop.invariant.1 in
    rw pulses (omega (arith, four_numbers, count_grows (c.loop.row.numbers + 1) 4 3 (omega arith)))
