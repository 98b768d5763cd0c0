-- What a reading under way stands for: what the bytes so far and any bytes after them give.
use Rattle.std.specs.Prelude.{◌≡◌, ◌≤◌, ◌<◌, ℕ, ◌+◌, ◌^◌, Bool, true, false, List, [], ◌++◌, take, Option, Some, None}
use Rattle.celt_base.specs.declared.status.Fault.{Fault}
use Rattle.wav_edge.specs.declared.cursor.Cursor.{Cursor}
use Rattle.wav_edge.specs.declared.cursor.State.{State}
use Rattle.wav_edge.specs.declared.cursor.State.TheVariants.{Reading, Started, Stopped}
use Rattle.wav_edge.specs.Parts.{is_readable}
use Rattle.wav_edge.specs.Reading.{Outcome, read}
use Rattle.wav_edge.specs.Reading.Outcome.{Unfinished, Faulty}

-- the bytes that a cursor holds, and then these
unfoldable pub resumed : Cursor → List ℕ → Outcome
resumed cursor more = read (take cursor.len cursor.held ++ more) cursor.left cursor.seen cursor.at

-- the same for a state, which may have come to the samples or to a fault
abbrev pub resumed_state : State → List ℕ → Outcome
resumed_state (Reading cursor) more = resumed cursor more
resumed_state (Started channels rate size place) more = Outcome.Started channels rate size place
resumed_state (Stopped fault) more = Faulty fault

-- the place of the next byte
abbrev pub place_of : Cursor → ℕ
place_of cursor = cursor.at + cursor.len

-- the state after n bytes from a place on: samples begin after the first of them at the earliest, and can be
-- read
abbrev pub IsMoved : ℕ → ℕ → State → Type 0
IsMoved from n (Reading cursor) = place_of cursor ≡ from + n
IsMoved from n (Started channels rate size place) =
    (from < place) × (place ≤ from + n) × (is_readable channels rate ≡ true)
IsMoved from n (Stopped fault) = Unit {0}

-- the state after n bytes more: only a reading that is under way moves
abbrev pub IsStep : State → ℕ → State → Type 0
IsStep (Reading cursor) n after = IsMoved (place_of cursor) n after
IsStep (Started channels rate size place) n after = after ≡ Started channels rate size place
IsStep (Stopped fault) n after = after ≡ Stopped fault

-- n more bytes leave the places below 2^40
abbrev pub Fits40 : State → ℕ → Type 0
Fits40 (Reading cursor) n = place_of cursor + n ≤ 2 ^ 40
Fits40 (Started channels rate size place) n = Unit {0}
Fits40 (Stopped fault) n = Unit {0}

-- the place of the next byte, after `fed` bytes
abbrev pub next_place : State → ℕ → ℕ
next_place (Reading cursor) fed = place_of cursor
next_place (Started channels rate size place) fed = fed
next_place (Stopped fault) fed = fed

abbrev pub is_started : State → Bool
is_started (Reading cursor) = false
is_started (Started channels rate size place) = true
is_started (Stopped fault) = false

abbrev pub stopped_by : State → Option Fault
stopped_by (Reading cursor) = None
stopped_by (Started channels rate size place) = None
stopped_by (Stopped fault) = Some fault

-- whether a reading that is under way ends between two parts
abbrev pub EndsBetween : State → Bool → Type 0
EndsBetween (Reading cursor) between = resumed cursor [] ≡ Unfinished between
EndsBetween (Started channels rate size place) between = between ≡ false
EndsBetween (Stopped fault) between = between ≡ false
