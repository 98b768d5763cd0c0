use Rattle.std.proofs.Common.{◌≡◌, ◌<◌, ◌≤◌, ◌^◌, arith, ap, ◌∙◌}
use Rattle.std.specs.Prelude.{pos, get_or, unsigned_abs}
use Rattle.std.specs.Int.{w32, cast_signed as to_z, cast_unsigned as of_z}
use Rattle.std.proofs.lemmas.Int.{ints}
use Rattle.bit_allocation.specs.Amounts.{value_of, tilted, offset_of, most_of}
use Rattle.bit_allocation.proofs.AmountLemmas.{most_of_most, band_inside, offset_within}
use Rattle.bit_allocation.proofs.bands.value.Goals as goal

pub usual-amount-requires-clause-size : goal.usual-amount-requires-clause-size
usual-amount-requires-clause-size c =
    let k = c.args.bands.now.request.kind in
    let m : most_of k c.args.band ≤ 26752 = most_of_most k c.args.band (band_inside k c.args.band c.requires) in
    let e : get_or c.args.bands.now.most c.args.band 0 ≡ most_of k c.args.band = c.args.bands.now.most_are c.args.band c.requires in
    omega (arith, e, m)

pub with_offset-requires-clause-offset : goal.with_offset-requires-clause-offset
with_offset-requires-clause-offset c =
    let r = c.args.bands.now.request in
    let w : unsigned_abs (offset_of r.kind r.trim c.args.band) < 2 ^ 14 = offset_within r.kind r.trim c.args.band (band_inside r.kind c.args.band c.requires) c.args.bands.now.request_is.trim in
    let e : get_or c.args.bands.now.offsets c.args.band (pos 0) ≡ offset_of r.kind r.trim c.args.band = c.args.bands.now.offsets_are c.args.band c.requires in
    omega (arith, ints, e, w)

pub returns-clause-value : goal.returns-clause-value
unfolding value_of
returns-clause-value c =
    let r = c.args.bands.now.request in
    let w : unsigned_abs (offset_of r.kind r.trim c.args.band) < 2 ^ 14 = offset_within r.kind r.trim c.args.band (band_inside r.kind c.args.band c.requires) c.args.bands.now.request_is.trim in
    let e : get_or c.args.bands.now.offsets c.args.band (pos 0) ≡ offset_of r.kind r.trim c.args.band = c.args.bands.now.offsets_are c.args.band c.requires in
    let f : to_z w32 (of_z w32 (get_or c.args.bands.now.offsets c.args.band (pos 0))) ≡ offset_of r.kind r.trim c.args.band = omega (arith, ints, e, w) in
    c.with_offset.ensures.value
    ∙ ap (λ o. tilted o c.usual-amount.result) f
    ∙ ap (tilted (offset_of r.kind r.trim c.args.band)) c.usual-amount.ensures.value
