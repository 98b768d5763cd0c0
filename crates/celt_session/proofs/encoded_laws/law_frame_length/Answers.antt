use Rattle.celt_session.specs.EncodedFrames.{frame_length}
use Rattle.celt_session.proofs.encoded_laws.law_frame_length.Goals as goal

pub returns : goal.returns
returns c = frame_length
