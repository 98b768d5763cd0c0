use Rattle.std.proofs.Common.{◌∙◌, ap}
use Rattle.celt_encode.specs.Encoders.{EncoderState}
use Rattle.celt_synth.proofs.StepLemmas.{off_is}
use Rattle.celt_cli.proofs.EncodingLemmas.{new_kind, new_shared, new_made}
use Rattle.celt_cli.proofs.encoding_maker.EncodingMaker.new.Goals as goal

pub invariant_of-result : goal.invariant_of-result
invariant_of-result c = record { of_kind = ap (λ (e : EncoderState). e.kind) c.in-Ok-new.ensures ∙ new_kind c.kind.result ∙ c.kind.ensures }

pub returns-in-Ok-new : goal.returns-in-Ok-new
returns-in-Ok-new c = record {
  shared = ap (λ (e : EncoderState). e.shared) c.in-Ok-new.ensures ∙ new_shared c.kind.result;
  made = ap (λ (e : EncoderState). e.made) c.in-Ok-new.ensures ∙ new_made c.kind.result;
  earlier = off_is c.off.result c.off.ensures;
  last = off_is c.off-in-Ok-new.result c.off-in-Ok-new.ensures;
}
