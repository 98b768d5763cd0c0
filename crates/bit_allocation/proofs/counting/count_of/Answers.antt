use Rattle.std.proofs.Common.{◌≡◌, ◌≤◌, arith}
use Rattle.std.specs.Prelude.{get_or}
use Rattle.bit_allocation.specs.Amounts.{most_of}
use Rattle.bit_allocation.proofs.AmountLemmas.{most_of_most, band_inside}
use Rattle.bit_allocation.proofs.counting.count_of.Goals as goal

pub returns-then-reached-clause-most : goal.returns-then-reached-clause-most
returns-then-reached-clause-most c =
    let k = c.args.bands.now.request.kind in
    let m : most_of k c.args.band ≤ 26752 = most_of_most k c.args.band (band_inside k c.args.band c.requires) in
    let e : get_or c.args.bands.now.most c.args.band 0 ≡ most_of k c.args.band = c.args.bands.now.most_are c.args.band c.requires in
    omega (arith, e, m)
