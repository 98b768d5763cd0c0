use Rattle.std.proofs.Common.{◌+◌, sym, subst, arith, ◌∙◌}
use Rattle.celt_encode.proofs.SpreadLemmas.{CountsTo, counts_first, counts_next, counts_pass}
use Rattle.celt_encode.proofs.spreads.counts_in.Goals as goal
use Rattle.celt_encode.proofs.spreads.counts_in.Goals.{then-count-ge8, else-count-ge8}

pub loop-band-init : goal.loop-band-init
loop-band-init c = counts_first c.args.kind c.args.spectrum.now

pub loop-band-preserved : goal.loop-band-preserved
loop-band-preserved c = elim c.if-count-ge8.branch [
  | then-count-ge8 w ↦
      let few = w.small_count.ensures.most in
      subst (λ k. CountsTo c.args.kind c.args.spectrum.now k.all k.small (c.loop-band.band + 1)) (sym w.counts-is)
      (counts_next c.args.kind c.args.spectrum.now w.band_in.result.now c.loop-band.counts.all c.loop-band.counts.small c.size-count.result w.small_count.result c.loop-band.band
      (omega (arith, w.if-count-ge8.true)) c.size-count.ensures.value c.size-count.ensures.most w.band_in.ensures.value (w.band_in.ensures.count ∙ sym c.size-count.ensures.value) w.small_count.ensures.value (omega (arith, few, w.band_in.ensures.count, c.size-count.ensures.value)) c.loop-band.invariant)
  | else-count-ge8 w ↦
      subst (λ k. CountsTo c.args.kind c.args.spectrum.now k.all k.small (c.loop-band.band + 1)) (sym w.counts-is)
      (counts_pass c.args.kind c.args.spectrum.now c.loop-band.counts.all c.loop-band.counts.small c.size-count.result c.loop-band.band (omega (arith, w.if-count-ge8.false)) c.size-count.ensures.value c.loop-band.invariant)
]
