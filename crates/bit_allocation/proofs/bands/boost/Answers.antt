use Rattle.std.proofs.Common.{◌<◌, ◌^◌, arith}
use Rattle.std.specs.Prelude.{pos, get_or, unsigned_abs}
use Rattle.std.proofs.lemmas.Int.{ints}
use Rattle.bit_allocation.proofs.AmountLemmas.{boost_within, band_inside}
use Rattle.bit_allocation.proofs.bands.boost.Goals as goal

pub returns-clause-most : goal.returns-clause-most
returns-clause-most c =
    let r = c.args.bands.now.request in
    let w : unsigned_abs (get_or r.boosts c.args.band (pos 0)) < 2 ^ 15 =
    boost_within r.kind c.args.band (get_or r.boosts c.args.band (pos 0)) (band_inside r.kind c.args.band c.requires) (c.args.bands.now.request_is.boosts c.args.band c.requires) in
    omega (arith, ints, w)
