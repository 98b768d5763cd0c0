-- What an encoding session stands for, and what its calls add to the output.
use Rattle.std.specs.Prelude.{ℕ, Bool, List, Option}
use Rattle.celt_session.specs.declared.settings.Settings.{Settings}
use Rattle.celt_session.specs.declared.encoder_pair.EncoderPair.{EncoderPair}
use Rattle.celt_session.specs.declared.frame_session.FrameSession.{FrameSession}
use Rattle.celt_session.specs.declared.fed.Fed.{Fed}
use Rattle.celt_session.specs.declared.ended.Ended.{Ended}
use Rattle.celt_session.specs.EncodedFrames.{encoded_frames}
use Rattle.celt_session.specs.EncoderPairs.{pair_work}
use Rattle.celt_session.specs.FrameSessions.{Adds, Ends, StandsFor as HeldFor}

pub record Recorder : Type 0 where
  pub held : FrameSession EncoderPair

-- it was fed these bytes
abbrev pub StandsFor : Recorder → List ℕ → Type 0
StandsFor s bytes = HeldFor pair_work s.held bytes

-- how many they are
abbrev pub taken_by : Recorder → ℕ
taken_by s = s.held.fed

abbrev pub is_ended : Recorder → Bool
is_ended s = s.held.is_ended

abbrev pub settings_of : Recorder → Settings
settings_of s = s.held.settings

-- what a call of feed does, before which it was fed these bytes, and now those
abbrev pub Feeds : Settings → List ℕ → List ℕ → Recorder → Option (List ℕ) → Option (List ℕ) → Fed → Type 0
Feeds settings bytes now s old new answer = Adds pair_work settings bytes now s.held old new answer

-- what a call of end does
abbrev pub Concludes : Settings → List ℕ → Option (List ℕ) → Option (List ℕ) → Ended → Type 0
Concludes settings bytes old new answer = Ends encoded_frames settings bytes old new answer
