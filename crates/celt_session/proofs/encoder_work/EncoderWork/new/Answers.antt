use Rattle.std.proofs.Common.{refl, ap}
use Rattle.celt_encode.specs.Encoders.{new_encoder}
use Rattle.celt_synth.proofs.StepLemmas.{off_is}
use Rattle.celt_session.proofs.encoder_work.EncoderWork.new.Goals as goal

pub returns-clause-makes : goal.returns-clause-makes
unfolding new_encoder
returns-clause-makes c = record {
  kind_is = refl;
  encoder = ap (λ e. e.kind) c.in-Ok.ensures;
  slots = c.in-Ok-empty_slots.ensures.count;
  windows = c.in-Ok-empty_slots.ensures.windows;
}

pub returns-clause-shows : goal.returns-clause-shows
unfolding new_encoder
returns-clause-shows c = record {
  encoder = record { kind_is = ap (λ e. e.kind) c.in-Ok.ensures; shared = ap (λ e. e.shared) c.in-Ok.ensures; made = ap (λ e. e.made) c.in-Ok.ensures };
  earlier = off_is _ c.off.ensures;
  last = off_is _ c.off-2.ensures;
}
