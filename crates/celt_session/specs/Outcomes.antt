-- The status that a limit and the bytes of the input give, and what each status says of the output.
use Rattle.std.specs.Prelude.{◌≡◌, ℕ, Bool, true, false, List, ◌++◌, length, take, Option, None, Some, nat_lt, ⊤}
use Rattle.std.specs.Io.KnownBytes.{Appends, Keeps}
use Rattle.celt_base.specs.declared.status.Fault.{Fault}
use Rattle.celt_base.specs.declared.status.FaultName.{FaultName}
use Rattle.celt_base.specs.declared.status.FaultName.TheVariants as names
use Rattle.celt_base.specs.declared.status.Status.{Status}
use Rattle.celt_base.specs.declared.status.Status.TheVariants as statuses
use Rattle.celt_base.specs.Outside.{AppendsFront}
use Rattle.opus_stream.specs.Acceptance.{fault_of as stream_fault, is_end_name}
use Rattle.celt_session.specs.PageFunctions.{PageFunction, running, full}

-- What is made of a list of bytes: all of it, before its end is known, and its earliest fault. Some names say that the bytes end
-- too early.
pub record Meaning : Type 0 where
  pub full : List ℕ → List ℕ
  pub running : List ℕ → List ℕ
  pub fault_of : List ℕ → Option Fault
  pub is_end : FaultName → Bool

-- the names that say so of a WAV file or of a stream
abbrev pub is_early_end : FaultName → Bool
is_early_end names.Truncated = true
is_early_end names.NoData = true
is_early_end names.DataTruncated = true
is_early_end _ = false

abbrev pub meaning : (f : PageFunction) → f.State → Meaning
meaning f start = record { full = full f start; running = running f start; fault_of = stream_fault; is_end = is_end_name }

-- the status of an input that ends within the limit, and of one that does not
abbrev pub ended_status : Option Fault → Status
ended_status None = statuses.Done
ended_status (Some fault) = statuses.Refused fault

abbrev pub cut_status_by : Bool → Fault → Status
cut_status_by true fault = statuses.InputTooLong
cut_status_by false fault = statuses.Refused fault

abbrev pub cut_status : (FaultName → Bool) → Option Fault → Status
cut_status is_end None = statuses.InputTooLong
cut_status is_end (Some fault) = cut_status_by (is_end fault.name) fault

abbrev pub status_by : (FaultName → Bool) → Bool → Option Fault → Status
status_by is_end true fault = cut_status is_end fault
status_by is_end false fault = ended_status fault

-- the first `limit` bytes are read, and whether there is one more is found out
unfoldable pub wanted : Meaning → ℕ → List ℕ → Status
wanted m limit bytes = status_by m.is_end (nat_lt limit (length bytes)) (m.fault_of (take limit bytes))

-- the status is the wanted one, or a failure of the outside
abbrev pub Answers : Status → Status → Type 0
Answers want statuses.Done = want ≡ statuses.Done
Answers want (statuses.Refused fault) = want ≡ statuses.Refused fault
Answers want statuses.InputTooLong = want ≡ statuses.InputTooLong
Answers want statuses.Usage = ⊥
Answers want statuses.ReadFault = ⊤
Answers want statuses.WriteFault = ⊤
Answers want statuses.NoMemory = ⊤

-- what was added is `running` of the bytes that were taken from the input
pub record AddsTaken (m : Meaning) (bytes : List ℕ) (left : Option (List ℕ)) (old new : Option (List ℕ)) : Type 0 where
  pub taken : List ℕ
  pub rest : List ℕ
  pub left_is : left ≡ Some rest
  pub split : bytes ≡ taken ++ rest
  pub added : Appends old new (m.running taken)

-- what was added to the output, where so much of the input is left
abbrev pub Writes : Meaning → ℕ → List ℕ → Option (List ℕ) → Option (List ℕ) → Option (List ℕ) → Status → Type 0
Writes m limit bytes left old new statuses.Done = Appends old new (m.full bytes)
Writes m limit bytes left old new (statuses.Refused fault) = Appends old new (m.full bytes)
Writes m limit bytes left old new statuses.InputTooLong = Appends old new (m.running (take limit bytes))
Writes m limit bytes left old new statuses.Usage = ⊥
Writes m limit bytes left old new statuses.ReadFault = AddsTaken m bytes left old new
Writes m limit bytes left old new statuses.WriteFault = AppendsFront old new (m.full bytes)
Writes m limit bytes left old new statuses.NoMemory = Keeps old new

-- ---- a work that may hold back what the bytes so far give

-- what was added to the output; a front of it where something failed
abbrev pub WritesFront : Meaning → ℕ → List ℕ → Option (List ℕ) → Option (List ℕ) → Status → Type 0
WritesFront m limit bytes old new statuses.Done = Appends old new (m.full bytes)
WritesFront m limit bytes old new (statuses.Refused fault) = Appends old new (m.full bytes)
WritesFront m limit bytes old new statuses.InputTooLong = Appends old new (m.running (take limit bytes))
WritesFront m limit bytes old new statuses.Usage = ⊥
WritesFront m limit bytes old new statuses.ReadFault = AppendsFront old new (m.full bytes)
WritesFront m limit bytes old new statuses.WriteFault = AppendsFront old new (m.full bytes)
WritesFront m limit bytes old new statuses.NoMemory = AppendsFront old new (m.full bytes)
