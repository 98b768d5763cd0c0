use Rattle.opus_packets.proofs.HeadsSpelled.{head_spelled}
use Rattle.opus_packets.proofs.laws.law_spelled_heads_are_read.Goals as goal

pub returns : goal.returns
returns c = head_spelled
