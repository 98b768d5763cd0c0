use Rattle.std.proofs.Common.{◌≡◌, false}
use Rattle.std.specs.Prelude.{pos}
use Rattle.bit_allocation.specs.Shares.{split_at, balance_of}
use Rattle.celt_base.proofs.Fronts.{IsFront}
use Rattle.bit_allocation.proofs.allocating.spread.Given as goal

abbrev pub invariant-loop-band : goal.invariant-loop-band
invariant-loop-band l = record {
  pulses : IsFront (pos 0) l.pulses (λ band. pos (split_at l.plan l.skipped l.stereo band).pulses) l.band;
  fine : IsFront 0 l.fine (λ band. (split_at l.plan l.skipped l.stereo band).fine) l.band;
  priority : IsFront false l.priority (λ band. (split_at l.plan l.skipped l.stereo band).priority) l.band;
  balance : l.balance ≡ balance_of l.plan l.skipped l.stereo l.band;
}
