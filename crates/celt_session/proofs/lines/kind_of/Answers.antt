use Rattle.std.specs.Prelude.{slice_index}
use Rattle.std.proofs.Common.{◌+◌, refl, ◌∙◌, ap}
use Rattle.celt_session.proofs.Framing.{kind_is, byte_is}
use Rattle.celt_session.proofs.lines.kind_of.Goals as goal

pub returns : goal.returns
returns c = kind_is _ (slice_index c.args.frames.now.packet 0) c.config-config.result c.stereo.result c.config-config.ensures c.stereo.ensures refl (ap (λ n. 1 + n) (c.from.ensures ∙ byte_is c.stereo.result)) c.end_of.ensures.value
