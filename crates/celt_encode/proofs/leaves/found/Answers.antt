use Rattle.std.proofs.Common.{◌≡◌, ◌∙◌, ap, arith, length, sum_by, unsigned_abs}
use Rattle.pulse_vectors.specs.Vectors.{count_of, pulse_sum}
use Rattle.celt_encode.proofs.leaves.found.Goals as goal

pub rank-requires-clause-pulses : goal.rank-requires-clause-pulses
unfolding pulse_sum
rank-requires-clause-pulses c = let e = c.search.ensures.pulses in let p = c.requires.pulses in (omega (arith, e, p), omega (arith, e, p))

pub rank-requires-clause-fits : goal.rank-requires-clause-fits
unfolding pulse_sum
rank-requires-clause-fits c =
    let size : length c.search.new.out ≡ length c.args.x.now = omega arith in
    let same : count_of (length c.search.new.out) (sum_by unsigned_abs c.search.new.out) ≡ count_of (length c.args.x.now) c.args.k =
    ap (λ n. count_of n (sum_by unsigned_abs c.search.new.out)) size ∙ ap (count_of (length c.args.x.now)) c.search.ensures.pulses in
    let fits = c.requires.fits in
    omega (arith, same, fits)
