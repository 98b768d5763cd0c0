-- What a reader of headers stands for, and its answers.
use Rattle.std.specs.Prelude.{◌≡◌, ◌≤◌, ◌<◌, ◌+◌, ℕ, ◌-◌, Bool, true, false, List, ◌++◌, length, Option, Some, None}
use Rattle.celt_base.specs.declared.status.Fault.{Fault}
use Rattle.wav_edge.specs.declared.reader.HeaderReader.{HeaderReader}
use Rattle.wav_edge.specs.declared.reader.Header.{Header}
use Rattle.wav_edge.specs.declared.reader.Header.TheVariants.{Need, Data}
use Rattle.wav_edge.specs.Cursors.{resumed_state, is_started, stopped_by}
use Rattle.wav_edge.specs.Reading.{Outcome, outcome}
use Rattle.wav_edge.specs.Reading.Outcome.{Unfinished, Faulty, Started}

-- the reader was fed these bytes: whatever follows them, it will answer for them and what follows
pub record StandsFor (reader : HeaderReader) (bytes : List ℕ) : Type 0 where
  pub count : reader.fed ≡ length bytes
  pub resumes : (more : List ℕ) → outcome (bytes ++ more) ≡ resumed_state reader.state more

-- how many bytes it was fed
abbrev pub bytes_fed : HeaderReader → ℕ
bytes_fed reader = reader.fed

-- it answered Data
abbrev pub has_started : HeaderReader → Bool
has_started reader = is_started reader.state

-- the fault that it answered
abbrev pub fault_of : HeaderReader → Option Fault
fault_of reader = stopped_by reader.state

-- the answer to a piece, where `before` bytes came in earlier ones
abbrev pub answered : ℕ → Outcome → Header
answered before (Unfinished between) = Need
answered before (Faulty fault) = Header.Fault fault
answered before (Started channels rate size place) = Data channels rate size (place - before)

-- what a reader answers to a piece
abbrev pub answer_to : HeaderReader → List ℕ → Header
answer_to reader piece = answered reader.fed (resumed_state reader.state piece)

-- samples that were found are of one channel or two, at 48 kHz
abbrev pub IsPlayable : Header → Type 0
IsPlayable Need = Unit {0}
IsPlayable (Data channels rate size used) = (1 ≤ channels) × (channels ≤ 2) × (rate ≡ 48000)
IsPlayable (Header.Fault fault) = Unit {0}

-- a definite answer says what all bytes give, where `before` of them came in earlier pieces
abbrev pub Gives : ℕ → Header → Outcome → Type 0
Gives before Need given = Unit {0}
Gives before (Data channels rate size used) given = given ≡ Started channels rate size (before + used)
Gives before (Header.Fault fault) given = given ≡ Faulty fault

-- the header ends inside a piece of n bytes
abbrev pub EndsWithin : ℕ → Header → Type 0
EndsWithin n Need = Unit {0}
EndsWithin n (Data channels rate size used) = (0 < used) × (used ≤ n)
EndsWithin n (Header.Fault fault) = Unit {0}

-- whether an answer is Data, and the fault that it names
abbrev pub is_data : Header → Bool
is_data Need = false
is_data (Data channels rate size used) = true
is_data (Header.Fault fault) = false

abbrev pub fault_in : Header → Option Fault
fault_in Need = None
fault_in (Data channels rate size used) = None
fault_in (Header.Fault fault) = Some fault
