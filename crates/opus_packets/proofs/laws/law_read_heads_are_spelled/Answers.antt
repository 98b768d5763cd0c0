use Rattle.opus_packets.proofs.HeadsSpelled.{head_found}
use Rattle.opus_packets.proofs.laws.law_read_heads_are_spelled.Goals as goal

pub returns : goal.returns
returns c = head_found
