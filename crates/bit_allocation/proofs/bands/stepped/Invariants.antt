use Rattle.std.proofs.Common.{◌+◌, ◌*◌, ◌/◌}
use Rattle.std.specs.Prelude.{slice_index}
use Rattle.celt_base.proofs.Fronts.{IsFront}
use Rattle.bit_allocation.proofs.bands.stepped.Given as goal

abbrev pub invariant-loop-band : goal.invariant-loop-band
invariant-loop-band l = IsFront 0 l.amounts (λ k. slice_index l.rise.firsts k + l.step * slice_index l.rise.seconds k / 64) l.band
