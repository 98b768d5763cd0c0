-- What is known of a packet that has no fault, and how long it lasts.
use Rattle.std.proofs.Common.{◌≡◌, ℕ, zero, suc, ◌+◌, ◌-◌, ◌*◌, ◌≤◌, Bool, true, false, not, List, [], ◌∷◌, ◌++◌, length, drop, sum, replicate, nat_lt, refl, ap, subst, arith, length-append, Option, Some, None, Result, Ok, Err}
use Rattle.std.specs.Prelude.{◌/◌, ◌%◌, ◌==◌, ◌||◌, slice_index, option_map, option_and_then, if◌then◌else◌}
use Rattle.std.specs.List.{All}
use Rattle.std.proofs.lemmas.Bool.{eqb-false, ltb-false}
use Rattle.std.proofs.lemmas.List.{length-replicate}
use Rattle.std.proofs.lemmas.List.Sums.{sum_by-cons}
use Rattle.std.proofs.lemmas.List.Elements.{All-nil, All-cons}
use Rattle.celt_base.specs.declared.status.FaultName.TheVariants as names
use Rattle.opus_packets.specs.Cut.{Cut}
use Rattle.opus_packets.specs.declared.fault.PacketFault.{PacketFault}
use Rattle.opus_packets.specs.declared.fault.PacketFault.TheVariants.{R1, R2, R3, R4, R5, R6, R7}
use Rattle.opus_packets.specs.Packet.{Lengths, config_of, code_of, duration_of, samples_of, count_of, is_padded, has_lengths, length_at, padding_of, with_first, lengths_at, one_frame, two_equal_frames, two_frames, equal_frames, given_frames, frames_with_lengths, many_frames, cut_of}
use Rattle.opus_stream.specs.Audio.{fault_at, first_fault, longest, cut_fault, packet_fault, packets_fault, cut_samples, packet_samples, samples_in, IsPlayable}

-- ---- how long a frame lasts

four_few : (a b c d m k : ℕ) → a ≤ m → b ≤ m → c ≤ m → d ≤ m → slice_index (a ∷ b ∷ c ∷ d ∷ []) k ≤ m
four_few a b c d m zero ha hb hc hd = ha
four_few a b c d m (suc zero) ha hb hc hd = hb
four_few a b c d m (suc (suc zero)) ha hb hc hd = hc
four_few a b c d m (suc (suc (suc zero))) ha hb hc hd = hd
four_few a b c d m (suc (suc (suc (suc k)))) ha hb hc hd = omega arith

two_few : (a b m k : ℕ) → a ≤ m → b ≤ m → slice_index (a ∷ b ∷ []) k ≤ m
two_few a b m zero ha hb = ha
two_few a b m (suc zero) ha hb = hb
two_few a b m (suc (suc k)) ha hb = omega arith

if_few : (b : Bool) (x y m : ℕ) → x ≤ m → y ≤ m → (if b then x else y) ≤ m
if_few true x y m hx hy = hx
if_few false x y m hx hy = hy

-- at most 60 ms
duration_few : (config : ℕ) → duration_of config ≤ 2880
duration_few config =
    if_few (nat_lt config 12) (slice_index (480 ∷ 960 ∷ 1920 ∷ 2880 ∷ []) (config % 4)) (if nat_lt config 16 then slice_index (480 ∷ 960 ∷ []) (config % 2) else slice_index (120 ∷ 240 ∷ 480 ∷ 960 ∷ []) (config % 4)) 2880
    (four_few 480 960 1920 2880 2880 (config % 4) (omega arith) (omega arith) (omega arith) (omega arith))
    (if_few (nat_lt config 16) (slice_index (480 ∷ 960 ∷ []) (config % 2)) (slice_index (120 ∷ 240 ∷ 480 ∷ 960 ∷ []) (config % 4)) 2880
    (two_few 480 960 2880 (config % 2) (omega arith) (omega arith))
    (four_few 120 240 480 960 2880 (config % 4) (omega arith) (omega arith) (omega arith) (omega arith)))

-- ---- the frames of a packet last at most 120 ms

-- of a packet that is cut into frames
pub record IsCutOf (packet : List ℕ) (cut : Cut) : Type 0 where
  pub packet_is : cut.packet ≡ packet
  pub short : samples_of cut ≤ 5760

abbrev Cuts : List ℕ → Result Cut PacketFault → Type 0
Cuts packet (Err rule) = Unit {0}
Cuts packet (Ok cut) = IsCutOf packet cut

cuts-if : (packet : List ℕ) (b : Bool) (x y : Result Cut PacketFault) → Cuts packet x → (b ≡ false → Cuts packet y) → Cuts packet (if b then x else y)
cuts-if packet true x y hx hy = hx
cuts-if packet false x y hx hy = hy refl

cuts-pick : (packet : List ℕ) (b : Bool) (x y : Result Cut PacketFault) → Cuts packet x → Cuts packet y → Cuts packet (if b then x else y)
cuts-pick packet true x y hx hy = hx
cuts-pick packet false x y hx hy = hy

one_cuts : (packet : List ℕ) → Cuts packet (one_frame packet)
unfolding one_frame
one_cuts packet =
    let d = duration_few (config_of (slice_index packet 0)) in
    let size = length packet - 1 in
    cuts-pick packet (nat_lt 1275 size) (Err R2) (Ok (record { packet = packet; first = 1; lengths = size ∷ [] })) tt (record { packet_is = refl; short = omega arith })

two_equal_cuts : (packet : List ℕ) → Cuts packet (two_equal_frames packet)
unfolding two_equal_frames
two_equal_cuts packet =
    let d = duration_few (config_of (slice_index packet 0)) in
    let size = (length packet - 1) / 2 in
    let cut : Cut = record { packet = packet; first = 1; lengths = size ∷ size ∷ [] } in
    cuts-pick packet (length packet % 2 == 0) (Err R3) (if nat_lt 1275 size then Err R2 else Ok cut) tt
    (cuts-pick packet (nat_lt 1275 size) (Err R2) (Ok cut) tt (record { packet_is = refl; short = omega arith }))

two_cuts : (packet : List ℕ) (o : Option _) → Cuts packet (two_frames packet o)
unfolding two_frames
two_cuts packet None = tt
two_cuts packet (Some l) =
    let d = duration_few (config_of (slice_index packet 0)) in
    let used = 1 + l.taken + l.value in
    let cut : Cut = record { packet = packet; first = 1 + l.taken; lengths = l.value ∷ (length packet - used) ∷ [] } in
    cuts-pick packet (nat_lt (length packet) used) (Err R4) (if nat_lt 1275 (length packet - used) then Err R2 else Ok cut) tt
    (cuts-pick packet (nat_lt 1275 (length packet - used)) (Err R2) (Ok cut) tt (record { packet_is = refl; short = omega arith }))

equal_cuts : (packet : List ℕ) (count : ℕ) (o : Option _) → count * duration_of (config_of (slice_index packet 0)) ≤ 5760 → Cuts packet (equal_frames count packet o)
unfolding equal_frames
equal_cuts packet count None few = tt
equal_cuts packet count (Some padding) few =
    let room = length packet - (2 + padding.taken + padding.value) in
    let cut : Cut = record { packet = packet; first = 2 + padding.taken; lengths = replicate count (room / count) } in
    let n : length (replicate count (room / count)) ≡ count = length-replicate count (room / count) in
    let all : samples_of cut ≡ count * duration_of (config_of (slice_index packet 0)) = ap (λ k. k * duration_of (config_of (slice_index packet 0))) n in
    cuts-pick packet (not (room % count == 0)) (Err R6) (if nat_lt 1275 (room / count) then Err R2 else Ok cut) tt
    (cuts-pick packet (nat_lt 1275 (room / count)) (Err R2) (Ok cut) tt (record { packet_is = refl; short = omega arith }))

-- as many lengths as are asked
abbrev Counts : ℕ → Option Lengths → Type 0
Counts n None = Unit {0}
Counts n (Some l) = length l.values ≡ n

lengths_count : (n : ℕ) (bytes : List ℕ) → Counts n (lengths_at n bytes)
unfolding lengths_at
lengths_count zero bytes = refl
lengths_count (suc n) bytes = by (λ rest. lengths_count n rest) (length_at bytes) where
  more : (l : _) (o : Option Lengths) → Counts n o → Counts (suc n) (option_map (with_first l) o)
  more l None h = tt
  more l (Some rest) h = ap suc h

  by : ((rest : List ℕ) → Counts n (lengths_at n rest)) → (o : Option _) → Counts (suc n) (option_and_then (λ l. option_map (with_first l) (lengths_at n (drop l.taken bytes))) o)
  by again None = tt
  by again (Some l) = more l (lengths_at n (drop l.taken bytes)) (again (drop l.taken bytes))

given_cuts : (packet : List ℕ) (padding : _) (count : ℕ) (o : Option Lengths) → 1 ≤ count → count * duration_of (config_of (slice_index packet 0)) ≤ 5760 → Counts (count - 1) o → Cuts packet (given_frames packet padding o)
unfolding given_frames
given_cuts packet padding count None some few h = tt
given_cuts packet padding count (Some given) some few h =
    let used = 2 + padding.taken + padding.value + given.taken + sum given.values in
    let cut : Cut = record { packet = packet; first = 2 + padding.taken + given.taken; lengths = given.values ++ (length packet - used) ∷ [] } in
    let l : length (given.values ++ (length packet - used) ∷ []) ≡ length given.values + 1 = length-append given.values ((length packet - used) ∷ []) in
    let n : length (given.values ++ (length packet - used) ∷ []) ≡ count = omega arith in
    let all : samples_of cut ≡ count * duration_of (config_of (slice_index packet 0)) = ap (λ k. k * duration_of (config_of (slice_index packet 0))) n in
    cuts-pick packet (nat_lt (length packet) used) (Err R7) (if nat_lt 1275 (length packet - used) then Err R2 else Ok cut) tt
    (cuts-pick packet (nat_lt 1275 (length packet - used)) (Err R2) (Ok cut) tt (record { packet_is = refl; short = omega arith }))

with_lengths_cuts : (packet : List ℕ) (count : ℕ) (o : Option _) → 1 ≤ count → count * duration_of (config_of (slice_index packet 0)) ≤ 5760 → Cuts packet (frames_with_lengths count packet o)
unfolding frames_with_lengths
with_lengths_cuts packet count None some few = tt
with_lengths_cuts packet count (Some padding) some few =
    given_cuts packet padding count (lengths_at (count - 1) (drop (2 + padding.taken) packet)) some few (lengths_count (count - 1) (drop (2 + padding.taken) packet))

or_none : (a b : Bool) → (a || b) ≡ false → (a ≡ false) × (b ≡ false)
or_none false false h = (refl, refl)
or_none false true h = let f : ⊥ = cc in absurd f
or_none true b h = let f : ⊥ = cc in absurd f

many_cuts : (packet : List ℕ) → Cuts packet (many_frames packet)
unfolding many_frames
many_cuts packet =
    let octet = slice_index packet 1 in
    let count = count_of octet in
    let padding = padding_of (is_padded octet) (drop 2 packet) in
    let each = duration_of (config_of (slice_index packet 0)) in
    let frames = if has_lengths octet then frames_with_lengths count packet padding else equal_frames count packet padding in
    cuts-pick packet (length packet == 1) (Err R6) (if count == 0 || nat_lt 5760 (count * each) then Err R5 else frames) tt
    (cuts-if packet (count == 0 || nat_lt 5760 (count * each)) (Err R5) frames tt (λ h. sound_count octet padding (or_none (count == 0) (nat_lt 5760 (count * each)) h)))
  where
    sound_count : (octet : ℕ) (padding : Option _) → ((count_of octet == 0) ≡ false) × (nat_lt 5760 (count_of octet * duration_of (config_of (slice_index packet 0))) ≡ false)
        → Cuts packet (if has_lengths octet then frames_with_lengths (count_of octet) packet padding else equal_frames (count_of octet) packet padding)
    sound_count octet padding h =
        let count = count_of octet in
        let few : count * duration_of (config_of (slice_index packet 0)) ≤ 5760 = ltb-false 5760 (count * duration_of (config_of (slice_index packet 0))) h.1 in
        let some = eqb-false count 0 h.0 in
        cuts-pick packet (has_lengths octet) (frames_with_lengths count packet padding) (equal_frames count packet padding)
        (with_lengths_cuts packet count padding (omega arith) few) (equal_cuts packet count padding few)

all_cuts : (packet : List ℕ) → Cuts packet (cut_of packet)
unfolding cut_of
all_cuts packet =
    let code = code_of (slice_index packet 0) in
    let two = two_frames packet (length_at (drop 1 packet)) in
    cuts-pick packet (length packet == 0) (Err R1) (if code == 0 then one_frame packet else (if code == 1 then two_equal_frames packet else (if code == 2 then two else many_frames packet))) tt
    (cuts-pick packet (code == 0) (one_frame packet) (if code == 1 then two_equal_frames packet else (if code == 2 then two else many_frames packet)) (one_cuts packet)
    (cuts-pick packet (code == 1) (two_equal_frames packet) (if code == 2 then two else many_frames packet) (two_equal_cuts packet)
    (cuts-pick packet (code == 2) two (many_frames packet) (two_cuts packet (length_at (drop 1 packet))) (many_cuts packet))))

pub cut_sound : (packet : List ℕ) (cut : Cut) → cut_of packet ≡ Ok cut → IsCutOf packet cut
cut_sound packet cut h = subst (Cuts packet) h (all_cuts packet)

by_cut : (packet : List ℕ) (r : Result Cut PacketFault) → Cuts packet r → cut_samples r ≤ 5760
by_cut packet (Err rule) h = omega arith
by_cut packet (Ok cut) h = h.short

-- a packet lasts at most 120 ms
pub samples_few : (packet : List ℕ) → packet_samples packet ≤ 5760
unfolding packet_samples
samples_few packet = by_cut packet (cut_of packet) (all_cuts packet)

pub samples_in_few : (packets : List (List ℕ)) → samples_in packets ≤ 5760 * length packets
samples_in_few [] = omega arith
samples_in_few (p ∷ ps) =
    let c : samples_in (p ∷ ps) ≡ packet_samples p + samples_in ps = sum_by-cons packet_samples p ps in
    let one = samples_few p in
    let rest = samples_in_few ps in
    omega arith

-- ---- a packet without a fault may be played

by_tests : (number : ℕ) (packet : List ℕ) (b : Bool) (r : Result Cut PacketFault) → nat_lt longest (length packet) ≡ b → cut_of packet ≡ r
    → (if b then Some (fault_at names.PacketTooLong number) else cut_fault number r) ≡ None → IsPlayable packet
by_tests number packet true r e f h = let g : ⊥ = cc in absurd g
by_tests number packet false (Err rule) e f h = let g : ⊥ = cc in absurd g
by_tests number packet false (Ok cut) e f h =
    let s = cut_sound packet cut f in
    let above = not_below (nat_lt (config_of (slice_index cut.packet 0)) 16) refl h in
    record { short = ltb-false longest (length packet) e; cut = cut; cut_is = f; packet_is = s.packet_is; celt = subst (λ l. 16 ≤ config_of (slice_index l 0)) s.packet_is above }
  where
    not_below : (t : Bool) → nat_lt (config_of (slice_index cut.packet 0)) 16 ≡ t → (if t then Some (fault_at (names.NotCelt (config_of (slice_index cut.packet 0))) number) else None) ≡ None
        → 16 ≤ config_of (slice_index cut.packet 0)
    not_below true e h = let g : ⊥ = cc in absurd g
    not_below false e h = ltb-false (config_of (slice_index cut.packet 0)) 16 e

pub playable : (number : ℕ) (packet : List ℕ) → packet_fault number packet ≡ None → IsPlayable packet
unfolding packet_fault
playable number packet h = by_tests number packet (nat_lt longest (length packet)) (cut_of packet) refl refl h

first-none : (a b : Option Rattle.celt_base.specs.declared.status.Fault.Fault) → first_fault a b ≡ None → (a ≡ None) × (b ≡ None)
first-none None b h = (refl, h)
first-none (Some fault) b h = let f : ⊥ = cc in absurd f

pub packets_playable : (number : ℕ) (packets : List (List ℕ)) (left : List ℕ) → packets_fault number packets left ≡ None → All IsPlayable packets
unfolding packets_fault
packets_playable number [] left h = All-nil IsPlayable
packets_playable number (p ∷ ps) left h =
    let both = first-none (packet_fault number p) (packets_fault (number + 1) ps left) h in
    All-cons IsPlayable p ps (playable number p both.0) (packets_playable (number + 1) ps left both.1)
