-- The frames of the packets of a page, in order (RFC 6716, section 3).
use Rattle.std.specs.Prelude.{ℕ, ◌+◌, ◌*◌, ◌%◌, ◌^◌, Bool, true, false, IsTrue, List, [], map, length, slice_index, nat_lt, if◌then◌else◌, Result, Ok, Err}
use Rattle.std.specs.List.{flat_map, sum_by}
use Rattle.std.proofs.Common.{arith, refl}
use Rattle.celt_base.specs.declared.kind.Kind.{Kind}
use Rattle.celt_base.specs.Ends.{is_band_end, end_of_config}
use Rattle.celt_base.specs.Kinds.{config_of_toc, stereo_of_toc}
use Rattle.opus_packets.specs.declared.fault.PacketFault.{PacketFault}
use Rattle.opus_packets.specs.Cut.{Cut, frames_of}
use Rattle.opus_packets.specs.Packet.{cut_of}

pub record Frame : Type 0 where
  pub kind : Kind
  pub bytes : List ℕ

pub ends_by : (a b c : Bool) → IsTrue (is_band_end (if a then 13 else (if b then 17 else (if c then 19 else 21))))
ends_by true b c = refl
ends_by false true c = refl
ends_by false false true = refl
ends_by false false false = refl

-- the kind that the first byte of an audio packet names
unfoldable pub kind_of : ℕ → Kind
kind_of toc = record {
  lm = config_of_toc toc % 4;
  channels = 1 + stereo_of_toc toc;
  end = end_of_config (config_of_toc toc);
  sized = omega arith;
  some_channel = omega arith;
  two_channels = omega arith;
  ended = ends_by (nat_lt (config_of_toc toc) 20) (nat_lt (config_of_toc toc) 24) (nat_lt (config_of_toc toc) 28);
}

-- the samples per channel of a frame
abbrev pub duration : Kind → ℕ
duration kind = 120 * 2 ^ kind.lm

-- a frame of fewer than two bytes stands for one that was lost, and is concealed
abbrev pub is_concealed : List ℕ → Bool
is_concealed bytes = nat_lt (length bytes) 2

abbrev pub framed : Kind → List ℕ → Frame
framed kind bytes = record { kind = kind; bytes = bytes }

abbrev pub frames_by : Result Cut PacketFault → List Frame
frames_by (Err rule) = []
frames_by (Ok cut) = map (framed (kind_of (slice_index cut.packet 0))) (frames_of cut)

-- the frames of a packet, and of the packets of a page
unfoldable pub packet_frames : List ℕ → List Frame
packet_frames packet = frames_by (cut_of packet)

unfoldable pub page_frames : List (List ℕ) → List Frame
page_frames packets = flat_map packet_frames packets

-- the samples per channel of frames
abbrev pub durations : List Frame → ℕ
durations frames = sum_by (λ frame. duration frame.kind) frames
