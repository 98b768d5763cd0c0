-- What a decoding session stands for, and what its calls add to the output.
use Rattle.std.specs.Prelude.{ℕ, Bool, List, Option}
use Rattle.celt_session.specs.declared.settings.DecodeSettings.{DecodeSettings}
use Rattle.celt_session.specs.declared.fed.Fed.{Fed}
use Rattle.celt_session.specs.declared.work.PageWork.{PageWork}
use Rattle.celt_session.specs.Decoding.{start_of}
use Rattle.celt_session.specs.PageWorks.{page_work}
use Rattle.celt_session.specs.Sessions.{Held, Adds, StandsFor as HeldFor, taken_by as bytes_taken}

pub record Decoder : Type 0 where
  pub settings : DecodeSettings
  pub held : Held PageWork

-- it was fed these bytes
abbrev pub StandsFor : Decoder → List ℕ → Type 0
StandsFor d bytes = HeldFor page_work (start_of d.settings) d.held bytes

-- how many they are, at most
abbrev pub taken_by : Decoder → ℕ
taken_by d = bytes_taken d.held

abbrev pub is_ended : Decoder → Bool
is_ended d = d.held.is_ended

-- what a call of feed does, before which it was fed these bytes, and now those
abbrev pub Feeds : List ℕ → List ℕ → Decoder → Option (List ℕ) → Option (List ℕ) → Fed → Type 0
Feeds bytes now d old new answer = Adds page_work (start_of d.settings) bytes now d.held old new answer
