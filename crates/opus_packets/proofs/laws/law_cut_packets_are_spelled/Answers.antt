use Rattle.opus_packets.proofs.FormsFound.{cut_spelled}
use Rattle.opus_packets.proofs.laws.law_cut_packets_are_spelled.Goals as goal

pub returns : goal.returns
returns c = cut_spelled
