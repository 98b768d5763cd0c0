use Rattle.std.proofs.Common.{ℕ, ◌<◌, ◌^◌}
use Rattle.std.specs.Prelude.{slice_index}
use Rattle.bit_allocation.specs.Counts.{first_of, second_of}
use Rattle.celt_base.proofs.Fronts.{IsFront}
use Rattle.bit_allocation.proofs.bands.between.Given as goal

abbrev pub invariant-loop-band : goal.invariant-loop-band
invariant-loop-band l = record {
  firsts : IsFront 0 l.firsts (first_of l.bands.request l.quality) l.band;
  seconds : IsFront 0 l.seconds (second_of l.bands.request l.quality) l.band;
  most_first : (k : ℕ) → slice_index l.firsts k < 2 ^ 17;
  most_second : (k : ℕ) → slice_index l.seconds k < 2 ^ 17;
}
