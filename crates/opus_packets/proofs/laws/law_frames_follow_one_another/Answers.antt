use Rattle.opus_packets.proofs.Cuts.{end_is_start, end_within}
use Rattle.opus_packets.proofs.laws.law_frames_follow_one_another.Goals as goal

pub returns-clause-follow : goal.returns-clause-follow
returns-clause-follow c = end_is_start

pub returns-clause-within : goal.returns-clause-within
returns-clause-within c = end_within
