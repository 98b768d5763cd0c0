use Rattle.std.proofs.Common.{arith}
use Rattle.celt_base.proofs.BandEnds.{end_most}
use Rattle.celt_encode.proofs.UnitLemmas.{bands_first, bands_next, band_room}
use Rattle.celt_encode.proofs.units.put_bands.Goals as goal

pub loop-band-init : goal.loop-band-init
loop-band-init c = bands_first c.args.kind c.args.spectrum.now c.args.row.now c.requires.row

pub put_unit-requires-clause-within : goal.put_unit-requires-clause-within
put_unit-requires-clause-within c =
    let few = end_most c.args.kind in
    let room = band_room c.args.kind c.loop-band.band (omega (arith, few, c.from-band-end.ensures, c.loop-band-test.true)) in
    omega (arith, room.within, c.start.ensures.value, c.band_in.ensures.count, c.loop-band.invariant.count)

pub put_unit-requires-clause-count : goal.put_unit-requires-clause-count
put_unit-requires-clause-count c =
    let few = end_most c.args.kind in
    let room = band_room c.args.kind c.loop-band.band (omega (arith, few, c.from-band-end.ensures, c.loop-band-test.true)) in
    omega (arith, room.count, c.band_in.ensures.count)

pub loop-band-preserved : goal.loop-band-preserved
loop-band-preserved c =
    let few = end_most c.args.kind in
    bands_next c.args.kind c.args.spectrum.now c.loop-band.row c.put_unit.new.row c.band_in.result.now c.loop-band.band c.start.result (omega (arith, few, c.from-band-end.ensures, c.loop-band-test.true))
    c.start.ensures.value c.band_in.ensures.value c.band_in.ensures.count c.put_unit.ensures.front c.put_unit.ensures.length c.put_unit.ensures.sizes c.loop-band.invariant
