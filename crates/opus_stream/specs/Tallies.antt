-- What the tests of the packets of a page answer.
use Rattle.std.specs.Prelude.{◌≡◌, ℕ, ◌+◌, ◌*◌, ◌≤◌, List, length, drop, sum, Option, None, Some, Result, Ok, Err}
use Rattle.celt_base.specs.declared.status.Fault.{Fault}
use Rattle.opus_packets.specs.Cut.{parts}
use Rattle.opus_stream.specs.declared.packets.Tally.{Tally}
use Rattle.opus_stream.specs.Packets.{lengths_from}
use Rattle.opus_stream.specs.Audio.{samples_in, packets_fault}

abbrev pub fault_in : {A : Type 0} → Result A Fault → Option Fault
fault_in (Ok value) = None
fault_in (Err fault) = Some fault

-- the packets that end among the lacing values, where so many of the bytes stand before them, and what is behind the packets
abbrev pub packets_on : List ℕ → List ℕ → ℕ → List (List ℕ)
packets_on lacing bytes before = parts (lengths_from before lacing) bytes

abbrev pub open_behind : List ℕ → List ℕ → ℕ → List ℕ
open_behind lacing bytes before = drop (sum (lengths_from before lacing)) bytes

abbrev pub fault_on : List ℕ → List ℕ → ℕ → ℕ → Option Fault
fault_on lacing bytes before number = packets_fault number (packets_on lacing bytes before) (open_behind lacing bytes before)

pub record Adds (lacing bytes : List ℕ) (before number : ℕ) (tally : Tally) : Type 0 where
  pub sound : fault_on lacing bytes before number ≡ None
  pub packets : tally.packets ≡ length (lengths_from before lacing)
  pub samples : tally.samples ≡ samples_in (packets_on lacing bytes before)
  pub len : tally.len ≡ sum (lengths_from before lacing)
  pub inside : tally.len ≤ length bytes
  pub behind : length bytes ≤ tally.len + 61440
  pub few : tally.packets ≤ length lacing
  pub short : tally.samples ≤ 5760 * tally.packets

abbrev pub IsTally : List ℕ → List ℕ → ℕ → ℕ → Result Tally Fault → Type 0
IsTally lacing bytes before number (Ok tally) = Adds lacing bytes before number tally
IsTally lacing bytes before number (Err fault) = fault_on lacing bytes before number ≡ Some fault
