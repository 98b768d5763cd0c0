-- What a run says on the notes.
use Rattle.std.specs.Prelude.{◌⊎◌, ℕ, Bool, true, false, List, [], Option, Some, IfSome, ⊤}
use Rattle.std.specs.Io.KnownBytes.{Appends, Keeps}
use Rattle.celt_base.specs.declared.status.Status.{Status}
use Rattle.celt_base.specs.declared.status.Status.TheVariants as statuses
use Rattle.celt_base.specs.Outside.{Rose, AppendsFront}
use Rattle.celt_session.specs.declared.settings.Settings.{Settings}
use Rattle.celt_session.specs.Outcomes.{Meaning, Writes, WritesFront}
use Rattle.celt_session.specs.Decoding.{decoding}
use Rattle.celt_session.specs.EncodedFrames.{encoded_frames}
use Rattle.celt_session.specs.Encodings.{encoding_by}
use Rattle.celt_session.specs.Keeping.{IsKept}
use Rattle.celt_session.specs.Lockstep.{AreInStep}
use Rattle.celt_cli.specs.declared.words.Command.{Command}
use Rattle.celt_cli.specs.declared.words.Command.TheVariants.{Decode, Encode, Gen}
use Rattle.celt_cli.specs.EncodingMakers.{encoding_makers}
use Rattle.celt_cli.specs.GenLines.{AddsLine, gen_line, generating}
use Rattle.celt_cli.specs.Notes.{usage, refusal_of}

-- the line that a status gives
abbrev pub note_of : Status → List ℕ
note_of statuses.Done = []
note_of (statuses.Refused fault) = refusal_of fault
note_of statuses.Usage = usage
note_of statuses.ReadFault = []
note_of statuses.WriteFault = []
note_of statuses.NoMemory = []
note_of statuses.InputTooLong = []

-- the notes gained the line of the status; where writing failed, a front of the wanted status's line
abbrev pub Says : Status → Option (List ℕ) → Option (List ℕ) → Status → Type 0
Says want old new statuses.Done = Keeps old new
Says want old new (statuses.Refused fault) = Appends old new (note_of (statuses.Refused fault))
Says want old new statuses.Usage = Appends old new (note_of statuses.Usage)
Says want old new statuses.ReadFault = Keeps old new
Says want old new statuses.WriteFault = AppendsFront old new (note_of want)
Says want old new statuses.NoMemory = Keeps old new
Says want old new statuses.InputTooLong = Keeps old new

-- the status where the words are not accepted: memory may be refused before that is known
abbrev pub AnswersUsage : Status → Type 0
AnswersUsage statuses.Usage = ⊤
AnswersUsage statuses.WriteFault = ⊤
AnswersUsage statuses.Done = ⊥
AnswersUsage (statuses.Refused fault) = ⊥
AnswersUsage statuses.ReadFault = ⊥
AnswersUsage statuses.NoMemory = ⊤
AnswersUsage statuses.InputTooLong = ⊥

-- one of the two counts rose
abbrev pub EitherRose : ℕ → ℕ → ℕ → ℕ → Type 0
EitherRose output_old output_new notes_old notes_new = Rose output_old output_new ⊎ Rose notes_old notes_new

-- ---- WHAT A COMMAND MAKES OF ITS INPUT

-- a file is encoded by the frames of the encoder
abbrev pub encoding_for : Settings → Meaning
encoding_for settings = encoding_by encoded_frames settings

abbrev pub meaning_of : Command → Meaning
meaning_of (Decode settings) = decoding settings
meaning_of (Encode settings) = encoding_for settings
meaning_of (Gen settings) = generating encoding_makers settings

-- the bytes that a command reads: those of the input, where it tells them; `gen` reads none
abbrev pub IfReads : Command → Option (List ℕ) → (List ℕ → Type 0) → Type 0
IfReads (Decode settings) left P = IfSome left P
IfReads (Encode settings) left P = IfSome left P
IfReads (Gen settings) left P = P []

abbrev pub reads : Command → Bool
reads (Decode settings) = true
reads (Encode settings) = true
reads (Gen settings) = false

-- what a command added to the output, where so much of the input is left
abbrev pub Wrote : Command → ℕ → List ℕ → Option (List ℕ) → Option (List ℕ) → Option (List ℕ) → Status → Type 0
Wrote (Decode settings) limit bytes left old new status = Writes (decoding settings) limit bytes left old new status
Wrote (Encode settings) limit bytes left old new status = WritesFront (encoding_for settings) limit bytes old new status
Wrote (Gen settings) limit bytes left old new status = AddsLine (gen_line encoding_makers settings) old new status

-- What holds of what a command wrote: of an encoding each frame has the length that is asked for and is read as the answers that the
-- encoder keeps, and the decoder keeps in step with the encoder.
abbrev pub KeepsStep : Command → List ℕ → Type 0
KeepsStep (Decode settings) bytes = ⊤
KeepsStep (Encode settings) bytes = AreInStep settings bytes
KeepsStep (Gen settings) bytes = ⊤

-- The stream of a file is decoded without a fault, into as many samples per channel as the file holds.
abbrev pub KeepsSamples : Command → List ℕ → Type 0
KeepsSamples (Decode settings) bytes = ⊤
KeepsSamples (Encode settings) bytes = IsKept encoded_frames settings bytes
KeepsSamples (Gen settings) bytes = ⊤
