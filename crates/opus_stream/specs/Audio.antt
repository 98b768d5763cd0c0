-- The tests of an audio packet (RFC 6716, sections 3.1 and 3.4), and how long it lasts.
use Rattle.std.specs.Prelude.{◌≡◌, ℕ, ◌+◌, ◌≤◌, List, [], ◌∷◌, length, slice_index, sum_by, nat_lt, if◌then◌else◌, Option, None, Some, Result, Ok, Err}
use Rattle.celt_base.specs.declared.status.Fault.{Fault}
use Rattle.celt_base.specs.declared.status.FaultName.{FaultName}
use Rattle.celt_base.specs.declared.status.FaultName.TheVariants.{PacketTooLong, BadPacket, NotCelt}
use Rattle.opus_packets.specs.declared.fault.PacketFault.{PacketFault}
use Rattle.opus_packets.specs.declared.fault.PacketFault.TheVariants.{R1, R2, R3, R4, R5, R6, R7}
use Rattle.opus_packets.specs.Cut.{Cut}
use Rattle.opus_packets.specs.Packet.{config_of, samples_of, cut_of}

abbrev pub fault_at : FaultName → ℕ → Fault
fault_at name at = record { name = name; at = at }

-- the earlier of two faults
abbrev pub first_fault : Option Fault → Option Fault → Option Fault
first_fault None later = later
first_fault (Some fault) later = Some fault

-- the greatest length of an audio packet: 48 frames of 1275 bytes are 61,200, and their lengths take 96
abbrev pub longest : ℕ
longest = 61440

abbrev pub rule_number : PacketFault → ℕ
rule_number R1 = 1
rule_number R2 = 2
rule_number R3 = 3
rule_number R4 = 4
rule_number R5 = 5
rule_number R6 = 6
rule_number R7 = 7

-- of a packet that is cut into frames, and of one that is not
abbrev pub cut_fault : ℕ → Result Cut PacketFault → Option Fault
cut_fault number (Err rule) = Some (fault_at (BadPacket (rule_number rule)) number)
cut_fault number (Ok cut) =
    let config = config_of (slice_index cut.packet 0) in
    if nat_lt config 16 then Some (fault_at (NotCelt config) number) else None

-- what is wrong with the audio packet of this number: too long, a broken rule, or not of the CELT-only mode
unfoldable pub packet_fault : ℕ → List ℕ → Option Fault
packet_fault number packet =
    if nat_lt longest (length packet) then Some (fault_at PacketTooLong number) else cut_fault number (cut_of packet)

-- a packet that is open is too long as soon as its bytes so far are
abbrev pub open_fault : ℕ → List ℕ → Option Fault
open_fault number bytes = if nat_lt longest (length bytes) then Some (fault_at PacketTooLong number) else None

-- the first fault of packets, the first of which has this number, and of the one that is open behind them
unfoldable pub packets_fault : ℕ → List (List ℕ) → List ℕ → Option Fault
packets_fault number [] left = open_fault number left
packets_fault number (packet ∷ packets) left = first_fault (packet_fault number packet) (packets_fault (number + 1) packets left)

-- a packet that may be played: not too long, cut into frames, and of the CELT-only mode (configurations 16 to 31)
pub record IsPlayable (packet : List ℕ) : Type 0 where
  pub short : length packet ≤ longest
  pub cut : Cut
  pub cut_is : cut_of packet ≡ Ok cut
  pub packet_is : cut.packet ≡ packet
  pub celt : 16 ≤ config_of (slice_index packet 0)

abbrev pub cut_samples : Result Cut PacketFault → ℕ
cut_samples (Err rule) = 0
cut_samples (Ok cut) = samples_of cut

-- the samples per channel of a packet
unfoldable pub packet_samples : List ℕ → ℕ
packet_samples packet = cut_samples (cut_of packet)

abbrev pub samples_in : List (List ℕ) → ℕ
samples_in packets = sum_by packet_samples packets
