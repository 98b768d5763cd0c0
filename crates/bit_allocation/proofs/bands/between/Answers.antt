use Rattle.std.proofs.Common.{◌^◌, arith, refl}
use Rattle.bit_allocation.specs.Counts.{first_of, second_of}
use Rattle.celt_base.proofs.BandEnds.{end_most}
use Rattle.celt_base.proofs.Fronts.{front_none, front_more, small_put, small_none}
use Rattle.bit_allocation.proofs.bands.between.Goals as goal

pub loop-band-init : goal.loop-band-init
loop-band-init c = record {
  firsts = front_none 0 _ _ refl;
  seconds = front_none 0 _ _ refl;
  most_first = small_none (2 ^ 17) (omega arith);
  most_second = small_none (2 ^ 17) (omega arith);
}

pub loop-band-preserved : goal.loop-band-preserved
loop-band-preserved c =
    let r = c.args.bands.now.request in
    let e = end_most r.kind in
    let n = c.from-band-end.ensures in
    let i = c.loop-band.invariant in
    record {
      firsts = front_more 0 c.loop-band.firsts (first_of r c.args.quality) c.loop-band.band _ (omega (arith, e, n)) c.first-low.ensures.value i.firsts;
      seconds = front_more 0 c.loop-band.seconds (second_of r c.args.quality) c.loop-band.band _ (omega (arith, e, n)) c.second.ensures.value i.seconds;
      most_first = small_put c.loop-band.firsts c.loop-band.band c.first-low.result (2 ^ 17) (omega arith) c.first-low.ensures.most i.most_first;
      most_second = small_put c.loop-band.seconds c.loop-band.band c.second.result (2 ^ 17) (omega arith) c.second.ensures.most i.most_second;
    }

pub returns-clause-firsts : goal.returns-clause-firsts
returns-clause-firsts c = λ k below. let n = c.from-band-end.ensures in c.loop-band.invariant.firsts.done k (omega (arith, n))

pub returns-clause-seconds : goal.returns-clause-seconds
returns-clause-seconds c = λ k below. let n = c.from-band-end.ensures in c.loop-band.invariant.seconds.done k (omega (arith, n))
