use Rattle.std.proofs.Common.{arith, refl}
use Rattle.bit_allocation.specs.Counts.{boosted_of}
use Rattle.celt_base.proofs.BandEnds.{end_most}
use Rattle.celt_base.proofs.Fronts.{front_none, front_more}
use Rattle.bit_allocation.proofs.bands.boosted.Goals as goal

pub loop-band-init : goal.loop-band-init
loop-band-init c = front_none 0 _ _ refl

pub loop-band-preserved : goal.loop-band-preserved
loop-band-preserved c =
    let e = end_most c.args.bands.now.request.kind in
    let n = c.from-band-end.ensures in
    front_more 0 c.loop-band.amounts (boosted_of c.args.bands.now.request c.args.quality) c.loop-band.band _
    (omega (arith, e, n)) (omega (arith, c.value.ensures.value, c.boost.ensures.value)) c.loop-band.invariant

pub returns : goal.returns
returns c = λ k below. let n = c.from-band-end.ensures in c.loop-band.invariant.done k (omega (arith, n))
