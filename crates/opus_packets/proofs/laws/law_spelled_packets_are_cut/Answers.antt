use Rattle.opus_packets.proofs.FormsRead.{frames_written}
use Rattle.opus_packets.proofs.laws.law_spelled_packets_are_cut.Goals as goal

pub returns : goal.returns
returns c = frames_written
