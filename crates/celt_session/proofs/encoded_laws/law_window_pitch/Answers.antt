use Rattle.celt_session.proofs.EncodedSteps.{pitch_is}
use Rattle.celt_session.proofs.encoded_laws.law_window_pitch.Goals as goal

pub returns : goal.returns
returns c = pitch_is
