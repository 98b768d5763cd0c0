use Rattle.celt_synth.proofs.FrameLemmas.{frame_concealed, frame_read, frame_shares}
use Rattle.celt_synth.proofs.laws.law_frame.Goals as goal

pub returns-clause-concealed : goal.returns-clause-concealed
returns-clause-concealed c = frame_concealed

pub returns-clause-read : goal.returns-clause-read
returns-clause-read c = frame_read

pub returns-clause-shares : goal.returns-clause-shares
returns-clause-shares c = frame_shares
