-- What each code answers of a packet, by sums of lengths in place of the tests.
use Rattle.std.proofs.Common.{◌≡◌, ℕ, zero, suc, ◌+◌, ◌-◌, ◌*◌, ◌/◌, ◌%◌, ◌<◌, ◌≤◌, Bool, true, false, ◌==◌, nat_lt, if◌then◌else◌, List, [], ◌∷◌, ◌++◌, length, drop, replicate, sum, slice_index, Some, Ok, refl, ap, arith, ◌∙◌, lit≤}
use Rattle.std.proofs.Math.Nat.{mul-mod_right, mul-div_cancel, mul_comm, mul-le-mul_left}
use Rattle.std.proofs.lemmas.Bool.Decides.{nat_tests}
use Rattle.std.specs.declared.result.Result.{Result}
use Rattle.opus_packets.specs.declared.octets.Coded.{Coded}
use Rattle.opus_packets.specs.declared.fault.PacketFault.{PacketFault}
use Rattle.opus_packets.specs.Cut.{Cut}
use Rattle.opus_packets.specs.Packet.{cut_of, one_frame, two_equal_frames, two_frames, many_frames, equal_frames, given_frames, frames_with_lengths, length_at, padding_of, Lengths, config_of, duration_of, is_padded, has_lengths}

pub cut_by_0 : (packet : List ℕ) → 0 < length packet → slice_index packet 0 % 4 ≡ 0 → cut_of packet ≡ one_frame packet
unfolding cut_of
cut_by_0 packet some code =
    let e : (length packet == 0) ≡ false = grind (arith, nat_tests) in
    rw (e, code) refl

pub cut_by_1 : (packet : List ℕ) → 0 < length packet → slice_index packet 0 % 4 ≡ 1 → cut_of packet ≡ two_equal_frames packet
unfolding cut_of
cut_by_1 packet some code =
    let e : (length packet == 0) ≡ false = grind (arith, nat_tests) in
    rw (e, code) refl

pub cut_by_2 : (packet : List ℕ) → 0 < length packet → slice_index packet 0 % 4 ≡ 2 → cut_of packet ≡ two_frames packet (length_at (drop 1 packet))
unfolding cut_of
cut_by_2 packet some code =
    let e : (length packet == 0) ≡ false = grind (arith, nat_tests) in
    rw (e, code) refl

pub cut_by_3 : (packet : List ℕ) → 0 < length packet → slice_index packet 0 % 4 ≡ 3 → cut_of packet ≡ many_frames packet
unfolding cut_of
cut_by_3 packet some code =
    let e : (length packet == 0) ≡ false = grind (arith, nat_tests) in
    rw (e, code) refl

-- a cut, as the answer of `cut_of`
abbrev pub cut_at : List ℕ → ℕ → List ℕ → Result Cut PacketFault
cut_at packet first lengths = Ok (record { packet = packet; first = first; lengths = lengths })

pub one_sound : (packet : List ℕ) (n : ℕ) → length packet ≡ 1 + n → n ≤ 1275 → one_frame packet ≡ cut_at packet 1 (n ∷ [])
unfolding one_frame
one_sound packet n size short =
    let e : length packet - 1 ≡ n = omega arith in
    let t : nat_lt 1275 n ≡ false = grind (arith, nat_tests) in
    rw (e, t) refl

pub two_equal_sound : (packet : List ℕ) (n : ℕ) → length packet ≡ 1 + n + n → n ≤ 1275 → two_equal_frames packet ≡ cut_at packet 1 (n ∷ n ∷ [])
unfolding two_equal_frames
two_equal_sound packet n size short =
    let odd : length packet % 2 ≡ 1 = omega arith in
    let e : (length packet - 1) / 2 ≡ n = omega arith in
    let t : nat_lt 1275 n ≡ false = grind (arith, nat_tests) in
    rw (odd, e, t) refl

pub two_sound : (packet : List ℕ) (l : Coded) (n : ℕ) → length packet ≡ 1 + l.taken + l.value + n → n ≤ 1275 → two_frames packet (Some l) ≡ cut_at packet (1 + l.taken) (l.value ∷ n ∷ [])
unfolding two_frames
two_sound packet l n size short =
    let fits : nat_lt (length packet) (1 + l.taken + l.value) ≡ false = grind (arith, nat_tests) in
    let e : length packet - (1 + l.taken + l.value) ≡ n = omega arith in
    let t : nat_lt 1275 n ≡ false = grind (arith, nat_tests) in
    rw (fits, e, t) refl

pub equal_sound : (count : ℕ) (packet : List ℕ) (p : Coded) (n : ℕ) → 1 ≤ count → length packet ≡ 2 + p.taken + p.value + count * n → n ≤ 1275 → equal_frames count packet (Some p) ≡ cut_at packet (2 + p.taken) (replicate count n)
unfolding equal_frames
equal_sound count packet p n some size short =
    let e : length packet - (2 + p.taken + p.value) ≡ count * n = omega arith in
    let above : zero < count = omega arith in
    let whole : count * n % count ≡ 0 = mul-mod_right count n in
    let each : count * n / count ≡ n = ap (λ m. m / count) (mul_comm count n) ∙ mul-div_cancel n above in
    let t : nat_lt 1275 n ≡ false = grind (arith, nat_tests) in
    rw (e, whole, each, t) refl

pub given_sound : (packet : List ℕ) (p : Coded) (l : Lengths) (n : ℕ) → length packet ≡ 2 + p.taken + p.value + l.taken + sum l.values + n → n ≤ 1275 → given_frames packet p (Some l) ≡ cut_at packet (2 + p.taken + l.taken) (l.values ++ n ∷ [])
unfolding given_frames
given_sound packet p l n size short =
    let fits : nat_lt (length packet) (2 + p.taken + p.value + l.taken + sum l.values) ≡ false = grind (arith, nat_tests) in
    let e : length packet - (2 + p.taken + p.value + l.taken + sum l.values) ≡ n = omega arith in
    let t : nat_lt 1275 n ≡ false = grind (arith, nat_tests) in
    rw (fits, e, t) refl

-- a code 3 packet whose count is sound goes on to its frames
pub many_sound : (packet : List ℕ) (count : ℕ) → 2 ≤ length packet → slice_index packet 1 % 64 ≡ count → 1 ≤ count → count * duration_of (config_of (slice_index packet 0)) ≤ 5760
    → many_frames packet ≡ (if has_lengths (slice_index packet 1) then frames_with_lengths count packet (padding_of (is_padded (slice_index packet 1)) (drop 2 packet)) else equal_frames count packet (padding_of (is_padded (slice_index packet 1)) (drop 2 packet)))
unfolding many_frames
many_sound packet count long is some short =
    let e : (length packet == 1) ≡ false = grind (arith, nat_tests) in
    let z : (count == 0) ≡ false = grind (arith, nat_tests) in
    let t : nat_lt 5760 (count * duration_of (config_of (slice_index packet 0))) ≡ false = grind (arith, nat_tests) in
    rw (e, is, z, t) refl

at_least : (a b c d k : ℕ) → 120 ≤ a → 120 ≤ b → 120 ≤ c → 120 ≤ d → k < 4 → 120 ≤ slice_index (a ∷ b ∷ c ∷ d ∷ []) k
at_least a b c d zero la lb lc ld less = la
at_least a b c d (suc zero) la lb lc ld less = lb
at_least a b c d (suc (suc zero)) la lb lc ld less = lc
at_least a b c d (suc (suc (suc zero))) la lb lc ld less = ld
at_least a b c d (suc (suc (suc (suc k)))) la lb lc ld less = absurd (omega arith)

at_least_two : (a b k : ℕ) → 120 ≤ a → 120 ≤ b → k < 2 → 120 ≤ slice_index (a ∷ b ∷ []) k
at_least_two a b zero la lb less = la
at_least_two a b (suc zero) la lb less = lb
at_least_two a b (suc (suc k)) la lb less = absurd (omega arith)

in_either : (b : Bool) (m n : ℕ) → 120 ≤ m → 120 ≤ n → 120 ≤ (if b then m else n)
in_either true m n lm ln = lm
in_either false m n lm ln = ln

-- no frame is shorter than 2.5 ms
pub duration_least : (config : ℕ) → 120 ≤ duration_of config
duration_least config =
    let four : config % 4 < 4 = omega arith in
    let two : config % 2 < 2 = omega arith in
    in_either (nat_lt config 12) _ _ (at_least 480 960 1920 2880 (config % 4) (lit≤ tt) (lit≤ tt) (lit≤ tt) (lit≤ tt) four)
    (in_either (nat_lt config 16) _ _ (at_least_two 480 960 (config % 2) (lit≤ tt) (lit≤ tt) two)
    (at_least 120 240 480 960 (config % 4) (lit≤ tt) (lit≤ tt) (lit≤ tt) (lit≤ tt) four))

-- so there are at most 48 frames
pub few_frames : (count config : ℕ) → count * duration_of config ≤ 5760 → count ≤ 48
few_frames count config short = omega (arith, mul-le-mul_left count (duration_least config))
