use Rattle.celt_session.proofs.EncodingLemmas.{frames_enough, frames_fewest, last_frames, packets_within}
use Rattle.celt_session.proofs.encoding_laws.law_frames.Goals as goal

pub returns-clause-enough : goal.returns-clause-enough
returns-clause-enough c = frames_enough

pub returns-clause-fewest : goal.returns-clause-fewest
returns-clause-fewest c = frames_fewest

pub returns-clause-last : goal.returns-clause-last
returns-clause-last c = last_frames

pub returns-clause-within : goal.returns-clause-within
returns-clause-within c = packets_within
