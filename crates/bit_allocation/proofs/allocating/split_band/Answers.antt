use Rattle.std.proofs.Common.{◌∙◌, ap, arith}
use Rattle.std.specs.Prelude.{slice_index}
use Rattle.bit_allocation.specs.Shares.{share_of, split_of}
use Rattle.bit_allocation.proofs.AllocationLemmas.{band_coded, band_skipped, band_room}
use Rattle.bit_allocation.proofs.allocating.split_band.Goals as goal

pub share-bits-requires-clause-most : goal.share-bits-requires-clause-most
share-bits-requires-clause-most c =
    let p = c.args.plan.now in
    let s = c.args.skipped.now in
    let room = band_room p s c.args.stereo c.args.band c.requires.plan c.requires.skipped c.if-band-skipped.true in
    let e = c.left_after-left.ensures in
    omega (arith, room, e)

pub coded_split-requires-clause-bits : goal.coded_split-requires-clause-bits
coded_split-requires-clause-bits c =
    let p = c.args.plan.now in
    let s = c.args.skipped.now in
    let room = band_room p s c.args.stereo c.args.band c.requires.plan c.requires.skipped c.if-band-skipped.true in
    let e = c.left_after-left.ensures in
    let w = c.share-bits.ensures.within in
    omega (arith, room, e, w)

pub returns-then-band-skipped : goal.returns-then-band-skipped
returns-then-band-skipped c =
    let p = c.args.plan.now in
    let s = c.args.skipped.now in
    let t = c.args.stereo in
    let band = c.args.band in
    let before = c.args.before in
    c.coded_split.ensures
    ∙ ap (λ n. split_of c.args.bands.now.request.kind t band n before) (c.share-bits.ensures.value ∙ ap (λ l. share_of (slice_index s.bits band) l s.coded band) c.left_after-left.ensures)
    ∙ band_coded p s t band before c.args.bands.now.request.kind c.requires.same c.if-band-skipped.true

pub returns : goal.returns
returns c =
    c.skipped_split.ensures
    ∙ band_skipped c.args.plan.now c.args.skipped.now c.args.stereo c.args.band c.args.before c.args.bands.now.request.kind c.requires.same c.if-band-skipped.false
