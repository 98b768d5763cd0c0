-- A packet that is spelled from its frames is cut into just these frames.
use Rattle.std.proofs.Common.{◌≡◌, ℕ, zero, suc, ◌+◌, ◌-◌, ◌*◌, ◌/◌, ◌%◌, ◌<◌, ◌≤◌, Bool, true, false, ◌==◌, nat_lt, List, [], ◌∷◌, ◌++◌, flat_map, length, drop, replicate, sum, slice_index, Option, Some, None, is_some, refl, ap, arith, ◌∙◌, append_assoc}
use Rattle.std.proofs.lemmas.List.{drop_at, length-append, length-replicate}
use Rattle.std.proofs.lemmas.Bool.Decides.{nat_tests}
use Rattle.opus_packets.specs.declared.octets.Coded.{Coded}
use Rattle.opus_packets.specs.Packet.{cut_of, config_of, duration_of, is_padded, has_lengths, frames_with_lengths, length_at, padding_at, padding_of, lengths_at, Lengths}
use Rattle.opus_packets.specs.Form.{count_octet, length_octets, padding_octets, padding_bytes, Padding, IsPadding}
use Rattle.opus_packets.proofs.Sums.{cut_at, cut_by_3, equal_sound, given_sound, many_sound}

-- a value and the octets that say it
abbrev pub coded : ℕ → ℕ → Coded
coded v t = record { value = v; taken = t }

length_written_by : (n : ℕ) (rest : List ℕ) (b : Bool) → nat_lt n 252 ≡ b → length_at (length_octets n ++ rest) ≡ Some (coded n (length (length_octets n)))
unfolding length_at
length_written_by n rest true t = rw (t, t) refl
length_written_by n rest false t =
    let more : 252 ≤ n = grind (arith, nat_tests) in
    let u : nat_lt (252 + n % 4) 252 ≡ false = grind (arith, nat_tests) in
    let e : 252 + n % 4 + 4 * ((n - 252) / 4) ≡ n = omega arith in
    rw (t, u, e) refl

-- a length that is spelled is read back
pub length_written : (n : ℕ) (rest : List ℕ) → length_at (length_octets n ++ rest) ≡ Some (coded n (length (length_octets n)))
length_written n rest = length_written_by n rest (nat_lt n 252) refl

-- and padding too
pub padding_written : (more last : ℕ) (rest : List ℕ) → last < 255 → padding_at (replicate more 255 ++ last ∷ [] ++ rest) ≡ Some (coded (254 * more + last) (more + 1))
unfolding padding_at
padding_written zero last rest less =
    let t : (last == 255) ≡ false = grind (arith, nat_tests) in
    let e : last ≡ 254 * zero + last = omega arith in
    rw t (ap (λ v. Some (coded v 1)) e)
padding_written (suc more) last rest less =
    let e : 254 + (254 * more + last) ≡ 254 * suc more + last = omega arith in
    let f : 1 + (more + 1) ≡ suc more + 1 = omega arith in
    rw (padding_written more last rest less, e, f) refl

-- and a row of lengths
pub lengths_written : (ns rest : List ℕ) → lengths_at (length ns) (flat_map length_octets ns ++ rest) ≡ Some (record { values = ns; taken = length (flat_map length_octets ns) })
unfolding lengths_at
lengths_written [] rest = refl
lengths_written (n ∷ ns) rest =
    rw (
      append_assoc (length_octets n) (flat_map length_octets ns) rest,
      length_written n (flat_map length_octets ns ++ rest),
      drop_at (length_octets n) (flat_map length_octets ns ++ rest) (length (length_octets n)) refl,
      lengths_written ns rest,
      length-append (length_octets n) (flat_map length_octets ns),
    ) refl

-- what the octets of a padding say
abbrev pub said : Option Padding → Coded
said None = coded 0 0
said (Some p) = coded (254 * p.more + p.last) (p.more + 1)

pub said_taken : (padding : Option Padding) → length (padding_octets padding) ≡ (said padding).taken
said_taken None = refl
said_taken (Some p) = length-append (replicate p.more 255) (p.last ∷ []) ∙ ap (λ n. n + 1) (length-replicate p.more 255)

pub said_value : (padding : Option Padding) → IsPadding padding → length (padding_bytes padding) ≡ (said padding).value
said_value None is = refl
said_value (Some p) is = is.1

pub padding_read : (padding : Option Padding) (rest : List ℕ) → IsPadding padding → (said padding).value ≤ length rest → padding_of (is_some padding) (padding_octets padding ++ rest) ≡ Some (said padding)
unfolding padding_of
padding_read None rest is enough = refl
padding_read (Some p) rest is enough =
    let octets : length (padding_octets (Some p)) ≡ p.more + 1 = said_taken (Some p) in
    let size : length (padding_octets (Some p) ++ rest) ≡ p.more + 1 + length rest = length-append (padding_octets (Some p)) rest ∙ ap (λ n. n + length rest) octets in
    let t : nat_lt (length (padding_octets (Some p) ++ rest)) (p.more + 1 + (254 * p.more + p.last)) ≡ false = grind (arith, nat_tests) in
    rw (padding_written p.more p.last rest is.0, t) refl

-- a code 3 packet whose frames have one length, by what its octets say
pub many_equal : (packet : List ℕ) (b : Bool) (count n taken value : ℕ) → slice_index packet 0 % 4 ≡ 3 → slice_index packet 1 % 64 ≡ count
    → is_padded (slice_index packet 1) ≡ b → has_lengths (slice_index packet 1) ≡ false
    → 1 ≤ count → count * duration_of (config_of (slice_index packet 0)) ≤ 5760
    → padding_of b (drop 2 packet) ≡ Some (coded value taken) → length packet ≡ 2 + taken + value + count * n → n ≤ 1275
    → cut_of packet ≡ cut_at packet (2 + taken) (replicate count n)
many_equal packet b count n taken value code is padded given some short padding size limited =
    let here : 0 < length packet = omega arith in
    let long : 2 ≤ length packet = omega arith in
    cut_by_3 packet here code ∙ many_sound packet count long is some short ∙ rw (given, padded, padding) (equal_sound count packet (coded value taken) n some size limited)

-- and one whose lengths are given
pub many_given : (packet : List ℕ) (b : Bool) (count n taken value : ℕ) (l : Lengths) → slice_index packet 0 % 4 ≡ 3 → slice_index packet 1 % 64 ≡ count
    → is_padded (slice_index packet 1) ≡ b → has_lengths (slice_index packet 1) ≡ true
    → 1 ≤ count → count * duration_of (config_of (slice_index packet 0)) ≤ 5760
    → padding_of b (drop 2 packet) ≡ Some (coded value taken) → lengths_at (count - 1) (drop (2 + taken) packet) ≡ Some l
    → length packet ≡ 2 + taken + value + l.taken + sum l.values + n → n ≤ 1275
    → cut_of packet ≡ cut_at packet (2 + taken + l.taken) (l.values ++ n ∷ [])
unfolding frames_with_lengths
many_given packet b count n taken value l code is padded given some short padding lengths size limited =
    let here : 0 < length packet = omega arith in
    let long : 2 ≤ length packet = omega arith in
    cut_by_3 packet here code ∙ many_sound packet count long is some short ∙ rw (given, padded, padding, lengths) (given_sound packet (coded value taken) l n size limited)

-- the second octet of code 3 is read back
pub octet_count : (given : Bool) (padding : Option Padding) (count : ℕ) → count ≤ 48 → count_octet given padding count % 64 ≡ count
octet_count true None count few = omega arith
octet_count false None count few = omega arith
octet_count true (Some p) count few = omega arith
octet_count false (Some p) count few = omega arith

pub octet_padded : (given : Bool) (padding : Option Padding) (count : ℕ) → count ≤ 48 → is_padded (count_octet given padding count) ≡ is_some padding
octet_padded true None count few = let e : (count + 64 * 0 + 128 * 1) / 64 % 2 ≡ 0 = omega arith in rw e refl
octet_padded false None count few = let e : (count + 64 * 0 + 128 * 0) / 64 % 2 ≡ 0 = omega arith in rw e refl
octet_padded true (Some p) count few = let e : (count + 64 * 1 + 128 * 1) / 64 % 2 ≡ 1 = omega arith in rw e refl
octet_padded false (Some p) count few = let e : (count + 64 * 1 + 128 * 0) / 64 % 2 ≡ 1 = omega arith in rw e refl

pub octet_given : (given : Bool) (padding : Option Padding) (count : ℕ) → count ≤ 48 → has_lengths (count_octet given padding count) ≡ given
octet_given true None count few = let e : (count + 64 * 0 + 128 * 1) / 128 % 2 ≡ 1 = omega arith in rw e refl
octet_given false None count few = let e : (count + 64 * 0 + 128 * 0) / 128 % 2 ≡ 0 = omega arith in rw e refl
octet_given true (Some p) count few = let e : (count + 64 * 1 + 128 * 1) / 128 % 2 ≡ 1 = omega arith in rw e refl
octet_given false (Some p) count few = let e : (count + 64 * 1 + 128 * 0) / 128 % 2 ≡ 0 = omega arith in rw e refl
