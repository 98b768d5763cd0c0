-- What the bytes of a RIFF WAVE file give, in reading order: the format and the place of its samples, or
-- the first fault.
use Rattle.std.specs.Prelude.{ℕ, ℤ, zero, suc, ◌+◌, ◌-◌, ◌*◌, ◌%◌, Bool, true, false, ◌==◌, if◌then◌else◌, nat_le, List, [], ◌∷◌, length, take, drop, Option, Some, None}
use Rattle.celt_base.specs.declared.status.Fault.{Fault}
use Rattle.celt_base.specs.declared.status.FaultName.{FaultName}
use Rattle.celt_base.specs.declared.status.FaultName.TheVariants.{BadRiff, UnsupportedFormat, NoData, DataTruncated}
use Rattle.wav_edge.specs.declared.parts.Seen.{Seen}
use Rattle.wav_edge.specs.declared.parts.Seen.TheVariants.{Nothing, Form, Format}
use Rattle.wav_edge.specs.declared.parts.Part.{Part}
use Rattle.wav_edge.specs.declared.parts.Part.TheVariants.{More, Passed, Samples, Broken}
use Rattle.wav_edge.specs.Parts.{part_at}
use Rattle.wav_edge.specs.Samples.{samples_of}

-- what some bytes give
pub data Outcome : Type 0 where
  -- neither samples nor a fault so far; true where the bytes end between two parts
  Unfinished : Bool → Outcome
  -- this fault, before the samples
  Faulty : Fault → Outcome
  -- the channels, the rate, the declared size, or none for "up to the end", and the place of the samples
  Started : ℕ → ℕ → Option ℕ → ℕ → Outcome

-- between two parts: nothing is left to be passed over, and the form's head was read
abbrev pub is_between : ℕ → Seen → Bool
is_between zero Nothing = false
is_between zero Form = true
is_between zero (Format channels rate) = true
is_between (suc left) seen = false

-- what a part at this place gives; where it is passed over, what follows its first byte
abbrev pub followed : ℕ → Part → (ℕ → Seen → Outcome) → Outcome
followed at More next = Unfinished false
followed at (Passed seen len) next = next (len - 1) seen
followed at (Samples channels rate size) next = Started channels rate size (at + 8)
followed at (Broken fault) next = Faulty fault

-- the bytes from this place on, the first `left` of which are passed over before the next part begins
unfoldable pub read : List ℕ → ℕ → Seen → ℕ → Outcome
read [] left seen at = Unfinished (is_between left seen)
read (byte ∷ bytes) (suc left) seen at = read bytes left seen (at + 1)
read (byte ∷ bytes) zero seen at =
    followed at (part_at seen at (byte ∷ bytes)) (λ left' seen'. read bytes left' seen' (at + 1))

-- the faults that come before the samples
abbrev pub IsHeaderFault : FaultName → Type 0
IsHeaderFault BadRiff = Unit {0}
IsHeaderFault (UnsupportedFormat codec bits channels rate) = Unit {0}
IsHeaderFault _ = ⊥

-- the form is broken at this place
abbrev pub broken_at : ℕ → Outcome
broken_at place = Faulty (record { name = BadRiff; at = place })

-- the bytes of a file so far
unfoldable pub outcome : List ℕ → Outcome
outcome bytes = read bytes 0 Nothing 0

-- so many bytes after the head of `data` are all of its samples
abbrev pub is_whole : ℕ → Option ℕ → ℕ → Bool
is_whole channels None held = held % (2 * channels) == 0
is_whole channels (Some size) held = nat_le size held

-- the fault of an input that ends after n bytes
abbrev pub fault_at_end : Outcome → ℕ → Option Fault
fault_at_end (Unfinished true) n = Some (record { name = NoData; at = n })
fault_at_end (Unfinished false) n = Some (record { name = DataTruncated; at = n })
fault_at_end (Faulty fault) n = None
fault_at_end (Started channels rate size place) n =
    if is_whole channels size (n - place) then None else Some (record { name = DataTruncated; at = n })

-- the fault that these bytes have where the input ends with them, and no earlier fault
unfoldable pub end_fault : List ℕ → Option Fault
end_fault bytes = fault_at_end (outcome bytes) (length bytes)

-- of the bytes that follow the head of `data`, those of the samples
abbrev pub within_size : Option ℕ → List ℕ → List ℕ
within_size None bytes = bytes
within_size (Some size) bytes = take size bytes

abbrev pub sample_bytes : Outcome → List ℕ → List ℕ
sample_bytes (Unfinished between) bytes = []
sample_bytes (Faulty fault) bytes = []
sample_bytes (Started channels rate size place) bytes = within_size size (drop place bytes)

-- the samples of a file's bytes so far, channels interleaved
unfoldable pub samples : List ℕ → List ℤ
samples bytes = samples_of (sample_bytes (outcome bytes) bytes)
