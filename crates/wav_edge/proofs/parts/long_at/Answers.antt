use Rattle.std.proofs.Common.{ap, ◌∙◌}
use Rattle.byteorder.specs.Endian.{little_number}
use Rattle.wav_edge.proofs.FieldLemmas.{number_at-drop}
use Rattle.wav_edge.proofs.parts.long_at.Goals as goal

pub returns : goal.returns
returns c =
    c.read_u32.ensures ∙ ap (little_number 4) c.split_at.ensures.back ∙ number_at-drop 4 c.args.place c.args.bytes.now
