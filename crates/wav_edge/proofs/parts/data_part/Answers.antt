use Rattle.std.proofs.Common.{sym, ap, ◌∙◌}
use Rattle.wav_edge.specs.Parts.{can_follow}
use Rattle.wav_edge.proofs.PartLemmas.{readable_channels}
use Rattle.wav_edge.proofs.parts.data_part.Goals as goal

pub sized-requires-clause-some_channel : goal.sized-requires-clause-some_channel
sized-requires-clause-some_channel c =
    readable_channels c.in-Format.channels c.in-Format.rate (ap can_follow (sym c.in-Format.is) ∙ c.requires.readable)
