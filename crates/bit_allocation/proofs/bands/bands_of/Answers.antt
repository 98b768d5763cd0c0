use Rattle.std.proofs.Common.{◌≡◌, arith, refl, ap, ◌∙◌}
use Rattle.std.specs.Prelude.{pos}
use Rattle.std.specs.Int.{w32, cast_signed as to_z, cast_unsigned as of_z}
use Rattle.std.proofs.lemmas.Int.{ints}
use Rattle.bit_allocation.specs.Amounts.{threshold_of, most_of, offset_of}
use Rattle.bit_allocation.proofs.AmountLemmas.{same_number}
use Rattle.celt_base.proofs.BandEnds.{end_most}
use Rattle.celt_base.proofs.Fronts.{front_none, front_more}
use Rattle.bit_allocation.proofs.bands.bands_of.Goals as goal

pub loop-band-init : goal.loop-band-init
loop-band-init c = record {
  thresholds = front_none 0 _ _ refl;
  most = front_none 0 _ _ refl;
  offsets = front_none (pos 0) _ _ refl;
}

pub loop-band-preserved : goal.loop-band-preserved
loop-band-preserved c =
    let e = end_most c.args.request.kind in
    let n = c.from-band-end.ensures in
    let i = c.loop-band.invariant in
    let least = c.requires.trim.least in
    let most = c.requires.trim.most in
    let trim : to_z w32 (of_z w32 c.args.request.trim) ≡ c.args.request.trim = omega (arith, ints, least, most) in
    let size = c.offset.ensures.size in
    let offset : to_z w32 (of_z w32 c.offset.result) ≡ offset_of c.args.request.kind c.args.request.trim c.loop-band.band =
    same_number c.offset.result size ∙ c.offset.ensures.value ∙ ap (λ t. offset_of c.args.request.kind t c.loop-band.band) trim in
    record {
      thresholds = front_more 0 c.loop-band.thresholds (threshold_of c.args.request.kind) c.loop-band.band _ (omega (arith, e, n)) c.threshold.ensures.value i.thresholds;
      most = front_more 0 c.loop-band.most (most_of c.args.request.kind) c.loop-band.band _ (omega (arith, e, n)) c.greatest_amount.ensures.value i.most;
      offsets = front_more (pos 0) c.loop-band.offsets (offset_of c.args.request.kind c.args.request.trim) c.loop-band.band _ (omega (arith, e, n)) offset i.offsets;
    }

pub invariant_of-result : goal.invariant_of-result
invariant_of-result c =
    let n = c.from-band-end.ensures in
    let i = c.loop-band.invariant in
    record {
      request_is = c.requires;
      thresholds_are = λ k below. i.thresholds.done k (omega (arith, n));
      most_are = λ k below. i.most.done k (omega (arith, n));
      offsets_are = λ k below. i.offsets.done k (omega (arith, n));
    }
