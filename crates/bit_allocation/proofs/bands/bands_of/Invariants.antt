use Rattle.std.specs.Prelude.{pos}
use Rattle.bit_allocation.specs.Amounts.{threshold_of, most_of, offset_of}
use Rattle.celt_base.proofs.Fronts.{IsFront}
use Rattle.bit_allocation.proofs.bands.bands_of.Given as goal

abbrev pub invariant-loop-band : goal.invariant-loop-band
invariant-loop-band l = record {
  thresholds : IsFront 0 l.thresholds (threshold_of l.request.kind) l.band;
  most : IsFront 0 l.most (most_of l.request.kind) l.band;
  offsets : IsFront (pos 0) l.offsets (offset_of l.request.kind l.request.trim) l.band;
}
