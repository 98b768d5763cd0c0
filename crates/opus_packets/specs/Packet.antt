-- How an Opus packet is cut into its frames, and the first rule that it breaks (RFC 6716, section 3;
-- the rules R1 to R7 are those of section 3.4).
use Rattle.std.specs.Prelude.{ℕ, All, zero, suc, ◌+◌, ◌-◌, ◌*◌, ◌/◌, ◌%◌, ◌≤◌, Bool, not, ◌||◌, ◌==◌, nat_lt, if◌then◌else◌, List, [], ◌∷◌, ◌++◌, length, drop, replicate, sum, slice_index, Option, Some, None, option_map, option_and_then, Result, Ok, Err}
use Rattle.opus_packets.specs.Cut.{Cut}
use Rattle.opus_packets.specs.declared.octets.Coded.{Coded}
use Rattle.opus_packets.specs.declared.fault.PacketFault.{PacketFault}
use Rattle.opus_packets.specs.declared.fault.PacketFault.TheVariants.{R1, R2, R3, R4, R5, R6, R7}

-- THE FIRST OCTET (section 3.1): five bits of configuration, one for stereo, two for the code.

abbrev pub config_of : ℕ → ℕ
config_of toc = toc / 8

abbrev pub is_stereo : ℕ → Bool
is_stereo toc = toc / 4 % 2 == 1

abbrev pub code_of : ℕ → ℕ
code_of toc = toc % 4

-- how many samples at 48 kHz a frame of the configuration lasts: 10, 20, 40 or 60 ms below 12, 10 or
-- 20 ms below 16, and 2.5, 5, 10 or 20 ms from there on (table 2)
abbrev pub duration_of : ℕ → ℕ
duration_of config =
    if nat_lt config 12 then slice_index (480 ∷ 960 ∷ 1920 ∷ 2880 ∷ []) (config % 4) else
    if nat_lt config 16 then slice_index (480 ∷ 960 ∷ []) (config % 2) else
    slice_index (120 ∷ 240 ∷ 480 ∷ 960 ∷ []) (config % 4)

-- how long all the frames last
abbrev pub samples_of : Cut → ℕ
samples_of cut = length cut.lengths * duration_of (config_of (slice_index cut.packet 0))

-- what holds of the frames of every packet: they lie behind its first octet and within it, there are 1
-- to 48 of them, each has at most 1275 bytes, and they last at most 120 ms
pub record IsCut (cut : Cut) : Type 0 where
  pub behind_toc : 1 ≤ cut.first
  pub within : cut.first + sum cut.lengths ≤ length cut.packet
  pub some : 1 ≤ length cut.lengths
  pub few : length cut.lengths ≤ 48
  pub limited : All (λ n. n ≤ 1275) cut.lengths
  pub short : samples_of cut ≤ 5760

-- NUMBERS IN OCTETS, with how many octets say so.

-- the length of a frame (section 3.2.1): one octet below 252, or an octet f of 252 to 255 and a second
-- octet s for f + 4 * s
unfoldable pub length_at : List ℕ → Option Coded
length_at [] = None
length_at (f ∷ rest) = if nat_lt f 252 then Some (record { value = f; taken = 1 }) else second f rest
  where
    second : ℕ → List ℕ → Option Coded
    second f [] = None
    second f (s ∷ rest) = Some (record { value = f + 4 * s; taken = 2 })

-- 254 more octets of padding, and one more octet that says so
abbrev pub with_254_more : Coded → Coded
with_254_more next = record { value = 254 + next.value; taken = 1 + next.taken }

-- the octets of padding (section 3.2.5): an octet of 255 stands for 254 of them, and the next octet
-- goes on; one below 255 stands for as many as it says, and is the last
unfoldable pub padding_at : List ℕ → Option Coded
padding_at [] = None
padding_at (p ∷ rest) =
    if p == 255 then option_map with_254_more (padding_at rest) else Some (record { value = p; taken = 1 })

-- a padding that fits into so many octets with those that say so
abbrev pub fitting : ℕ → Option Coded → Option Coded
fitting room None = None
fitting room (Some p) = if nat_lt room (p.taken + p.value) then None else Some p

-- the padding of a packet, whose bytes from the third on these are: none where its flag is clear, and
-- else what its octets say, where they are whole and it fits
unfoldable pub padding_of : Bool → List ℕ → Option Coded
padding_of padded bytes =
    if padded then fitting (length bytes) (padding_at bytes) else Some (record { value = 0; taken = 0 })

-- lengths of frames, and how many octets say so
pub record Lengths : Type 0 where
  pub values : List ℕ
  pub taken : ℕ

-- one more length, before the others
abbrev pub with_first : Coded → Lengths → Lengths
with_first l rest = record { values = l.value ∷ rest.values; taken = l.taken + rest.taken }

-- the lengths of n frames that begin the bytes, where they are whole
unfoldable pub lengths_at : ℕ → List ℕ → Option Lengths
lengths_at zero bytes = Some (record { values = []; taken = 0 })
lengths_at (suc n) bytes =
    option_and_then (λ l. option_map (with_first l) (lengths_at n (drop l.taken bytes))) (length_at bytes)

-- THE FOUR CODES. The bytes are a whole packet's.

-- code 0 (section 3.2.2): one frame
unfoldable pub one_frame : List ℕ → Result Cut PacketFault
one_frame packet =
    let size = length packet - 1 in
    if nat_lt 1275 size then Err R2 else
    Ok (record { packet = packet; first = 1; lengths = size ∷ [] })

-- code 1 (section 3.2.3): two frames of one length
unfoldable pub two_equal_frames : List ℕ → Result Cut PacketFault
two_equal_frames packet =
    let size = (length packet - 1) / 2 in
    if length packet % 2 == 0 then Err R3 else
    if nat_lt 1275 size then Err R2 else
    Ok (record { packet = packet; first = 1; lengths = size ∷ size ∷ [] })

-- code 2 (section 3.2.4): two frames, and the length of the first
unfoldable pub two_frames : List ℕ → Option Coded → Result Cut PacketFault
two_frames packet None = Err R4
two_frames packet (Some l) =
    let used = 1 + l.taken + l.value in
    if nat_lt (length packet) used then Err R4 else
    if nat_lt 1275 (length packet - used) then Err R2 else
    Ok (record { packet = packet; first = 1 + l.taken; lengths = l.value ∷ (length packet - used) ∷ [] })

-- The second octet of a code 3 packet: six bits of count, a flag for padding, a flag for
-- given lengths (section 3.2.5)

abbrev pub count_of : ℕ → ℕ
count_of octet = octet % 64

abbrev pub is_padded : ℕ → Bool
is_padded octet = octet / 64 % 2 == 1

abbrev pub has_lengths : ℕ → Bool
has_lengths octet = octet / 128 % 2 == 1

-- code 3 with frames of one length
unfoldable pub equal_frames : ℕ → List ℕ → Option Coded → Result Cut PacketFault
equal_frames count packet None = Err R6
equal_frames count packet (Some padding) =
    let room = length packet - (2 + padding.taken + padding.value) in
    if not (room % count == 0) then Err R6 else
    if nat_lt 1275 (room / count) then Err R2 else
    Ok (record { packet = packet; first = 2 + padding.taken; lengths = replicate count (room / count) })

-- code 3 with the lengths of all frames but the last, once these are read
unfoldable pub given_frames : List ℕ → Coded → Option Lengths → Result Cut PacketFault
given_frames packet padding None = Err R7
given_frames packet padding (Some given) =
    let used = 2 + padding.taken + padding.value + given.taken + sum given.values in
    if nat_lt (length packet) used then Err R7 else
    if nat_lt 1275 (length packet - used) then Err R2 else
    Ok (record {
      packet = packet;
      first = 2 + padding.taken + given.taken;
      lengths = given.values ++ (length packet - used) ∷ [];
    })

-- code 3 with the lengths of all frames but the last
unfoldable pub frames_with_lengths : ℕ → List ℕ → Option Coded → Result Cut PacketFault
frames_with_lengths count packet None = Err R7
frames_with_lengths count packet (Some padding) =
    given_frames packet padding (lengths_at (count - 1) (drop (2 + padding.taken) packet))

-- code 3: a count of frames, which last at most 120 ms, or 5760 samples
unfoldable pub many_frames : List ℕ → Result Cut PacketFault
many_frames packet =
    let octet = slice_index packet 1 in
    let count = count_of octet in
    let padding = padding_of (is_padded octet) (drop 2 packet) in
    if length packet == 1 then Err R6 else
    if count == 0 || nat_lt 5760 (count * duration_of (config_of (slice_index packet 0))) then Err R5 else
    if has_lengths octet then frames_with_lengths count packet padding else
    equal_frames count packet padding

-- the frames of a packet, or the first rule that it breaks
unfoldable pub cut_of : List ℕ → Result Cut PacketFault
cut_of packet =
    let code = code_of (slice_index packet 0) in
    if length packet == 0 then Err R1 else
    if code == 0 then one_frame packet else
    if code == 1 then two_equal_frames packet else
    if code == 2 then two_frames packet (length_at (drop 1 packet)) else
    many_frames packet
