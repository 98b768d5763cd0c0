-- The room at the end: the code of the interval, or zero.
use Rattle.std.proofs.Common.{◌≡◌, ℕ, zero, suc, ◌+◌, ◌-◌, ◌*◌, ◌/◌, ◌^◌, ◌<◌, ◌≤◌, inl, inr, List, length, slice_index, refl, sym, ap, ◌∙◌, subst, arith}
use Rattle.std.specs.Prelude.{replicate}
use Rattle.std.proofs.lemmas.Bool.{cases_lt}
use Rattle.std.proofs.lemmas.List.{get_or-replicate, get_or_past, length-replicate}
use Rattle.std.proofs.lemmas.Nat.{mul-le, pow-add, pow_pos}
use Rattle.std.proofs.Math.Nat.{pow-le-pow_right}
use Rattle.celt_base.specs.Intervals.{Interval}
use Rattle.celt_base.specs.Paces.{Pace, pace_of, tell_of}
use Rattle.celt_base.specs.Questions.{bit_length}
use Rattle.range_coder.specs.declared.sender.Sender.{Sender}
use Rattle.range_coder.specs.FrameBits.{front, number}
use Rattle.range_coder.specs.Codes.{IsEnding, IsCodeOf}
use Rattle.range_coder.specs.Senders.{sender_pace, IsSent, Matches, LeavesCode, LeavesZero}
use Rattle.range_coder.proofs.Numbers.{number_small, front_small}
use Rattle.range_coder.proofs.SentEnds.{has_power}

-- a room of zeros
front_zero : (room : List ℕ) (count : ℕ) → ((k : ℕ) → slice_index room k ≡ 0) → front room count ≡ 0
unfolding front
front_zero room zero none = refl
front_zero room (suc count) none =
    let before = front_zero room count none in
    let last = none count in
    omega arith

pub number_zero : (room : List ℕ) → ((k : ℕ) → slice_index room k ≡ 0) → number room ≡ 0
unfolding number
number_zero room none = front_zero room (length room) none

pub zeros_number : (room : List ℕ) (n : ℕ) → room ≡ replicate n 0 → number room ≡ 0
zeros_number room n e = number_zero room (λ k. ap (λ xs. slice_index xs k) e ∙ zeros_are n k)
  where
    zeros_are : (n k : ℕ) → slice_index (replicate n 0) k ≡ 0
    zeros_are n k =
        elim (cases_lt k n) [
          | inl less ↦ get_or-replicate n k 0 0 less
          | inr past ↦ get_or_past (replicate n 0) k 0 (let e = length-replicate {A = ℕ} n 0 in omega arith)
        ]

-- the pace of a state is that of its interval
pub same_pace : (room : List ℕ) (s : Sender) (i : Interval) → Matches room s i → sender_pace s ≡ pace_of i
same_pace room s i is =
    let shift = is.shift in
    let raw = is.raw in
    let bits : 33 + 8 * s.sent + s.raw ≡ 33 + i.shift + i.raw = omega arith in
    ap (λ n. let pace : Pace = record { width = n; bits = 33 + 8 * s.sent + s.raw } in pace) is.width
    ∙ ap (λ n. let pace : Pace = record { width = i.width; bits = n } in pace) bits

pub overrun : (old new : List ℕ) (s : Sender) (i : Interval) (tell : ℕ) → length new ≡ length old → new ≡ replicate (length old) 0
    → tell ≡ tell_of (sender_pace s) → 8 * length old < tell → Matches old s i → LeavesZero new i tell
overrun old new s i tell len none told more is =
    record { more = omega arith; tell_is = told ∙ ap tell_of (same_pace old s i is); zero = none ∙ ap (λ n. replicate n 0) (sym len) }

-- what is told leaves room for the last bits
pub room_left : (s : Sender) (bits tell len : ℕ) → tell ≡ tell_of (sender_pace s) → tell ≤ 8 * len → bits + bit_length s.width ≤ 33
    → 8 * s.sent + bits + s.raw ≤ 8 * len
unfolding tell_of
room_left s bits tell len told fits few = omega arith

pub few_bits : (s : Sender) (bits : ℕ) → 2 ^ 23 < s.width → bits + bit_length s.width ≤ 33 → bits ≤ 9
few_bits s bits wide few =
    let is = has_power s.width (bit_length s.width) wide s.narrow refl in
    let least = is.least in
    omega arith

-- the last bits in their bytes fit
pub end_small : (first bits : ℕ) → first ≤ 2 ^ (bits + 1) → bits ≤ 9 → first * 2 ^ (8 * ((bits + 7) / 8) - bits) < 2 ^ 31
end_small first bits below few =
    let left = 8 * ((bits + 7) / 8) - bits in
    let product = mul-le first (2 ^ left) (2 ^ (bits + 1)) (2 ^ left) below (omega arith) in
    let sum = pow-add 2 (bits + 1) left in
    let most : (bits + 1) + left ≤ 17 = omega arith in
    let power : 2 ^ ((bits + 1) + left) ≤ 2 ^ 17 = pow-le-pow_right {n = 2} (omega arith) most in
    omega arith

-- the number of the front and the last bits
end_number : (len sent bits bytes front first : ℕ) → sent + bytes ≤ len → bits ≤ 8 * bytes
    → front * 2 ^ (8 * (len - sent)) + first * 2 ^ (8 * bytes - bits) * 2 ^ (8 * (len - (sent + bytes)))
    ≡ (front * 2 ^ bits + first) * 2 ^ (8 * len - (8 * sent + bits))
end_number len sent bits bytes front first within few =
    let unit = 2 ^ (8 * len - (8 * sent + bits)) in
    let upper : 2 ^ (8 * (len - sent)) ≡ 2 ^ bits * unit =
    ap (λ n. 2 ^ n) (let e : 8 * (len - sent) ≡ bits + (8 * len - (8 * sent + bits)) = omega arith in e) ∙ pow-add 2 bits (8 * len - (8 * sent + bits)) in
    let lower : unit ≡ 2 ^ (8 * bytes - bits) * 2 ^ (8 * (len - (sent + bytes))) =
    ap (λ n. 2 ^ n) (let e : 8 * len - (8 * sent + bits) ≡ (8 * bytes - bits) + 8 * (len - (sent + bytes)) = omega arith in e)
    ∙ pow-add 2 (8 * bytes - bits) (8 * (len - (sent + bytes))) in
    let first_is : first * unit ≡ first * (2 ^ (8 * bytes - bits) * 2 ^ (8 * (len - (sent + bytes)))) = ap (λ n. first * n) lower in
    let front_is : front * 2 ^ (8 * (len - sent)) ≡ front * (2 ^ bits * unit) = ap (λ n. front * n) upper in
    omega arith

-- the block's number is below that of all bits
block_small : (i : Interval) (bits first : ℕ) → i.low + i.width ≤ 2 ^ (31 + i.shift) → bits ≤ 31
    → (first + 1) * 2 ^ (31 - bits) ≤ i.low + i.width → first < 2 ^ (i.shift + bits)
block_small i bits first below few block =
    let some = pow_pos (31 - bits) in
    let all : 2 ^ (31 + i.shift) ≡ 2 ^ ((31 - bits) + (i.shift + bits)) = ap (λ n. 2 ^ n) (let e : 31 + i.shift ≡ (31 - bits) + (i.shift + bits) = omega arith in e) in
    front_small first (31 - bits) (i.shift + bits) (omega arith)

-- what the end owes
pub record Ends (s : Sender) (len bits first : ℕ) : Type 0 where
  pub left : 8 * s.sent + bits + s.raw ≤ 8 * len
  pub few : bits ≤ 9
  pub ending : (i : Interval) (front : ℕ) → i.low ≡ front * 2 ^ 31 + s.low → i.width ≡ s.width → IsEnding i bits (front * 2 ^ bits + first)

whole_by : (old new : List ℕ) (s : Sender) (i : Interval) (bits first tell : ℕ) → length new ≡ length old → ((k : ℕ) → slice_index new k < 256)
    → tell ≡ tell_of (sender_pace s) → tell ≤ 8 * length old → Ends s (length old) bits first → Matches old s i
    → ((is : IsSent old s i) → number new ≡ (is.front * 2 ^ bits + first) * 2 ^ (8 * length old - (8 * s.sent + bits)) + i.bits)
    → LeavesCode new i s.width
whole_by old new s i bits first tell len bytes told fits ends is number_new =
    let left = ends.left in
    let sent : IsSent old s i = is.sent (omega arith) in
    let told_is = told ∙ ap tell_of (same_pace old s i is) in
    let unit : 8 * length old - (8 * s.sent + bits) ≡ 8 * length new - (i.shift + bits) = let shift = is.shift in omega arith in
    let code : IsCodeOf i (length new) new =
    record {
      length_is = refl;
      bytes = bytes;
      bits = bits;
      first = sent.front * 2 ^ bits + first;
      ending = ends.ending i sent.front sent.low (sym is.width);
      number_is = number_new sent ∙ ap (λ n. (sent.front * 2 ^ bits + first) * 2 ^ n + i.bits) unit;
    } in
    record { fits = omega arith; code = code; range_is = is.width }

-- the last bits are added
pub whole_added : (old new : List ℕ) (s : Sender) (i : Interval) (bits first tell value : ℕ) → length new ≡ length old → ((k : ℕ) → slice_index new k < 256)
    → tell ≡ tell_of (sender_pace s) → tell ≤ 8 * length old → Ends s (length old) bits first → 1 ≤ bits
    → value ≡ first * 2 ^ (8 * ((bits + 7) / 8) - bits)
    → (number old + value * 2 ^ (8 * (length old - ((s.sent + (bits + 7) / 8 - 1) + 1))) < 2 ^ (8 * length old)
    → number new ≡ number old + value * 2 ^ (8 * (length old - ((s.sent + (bits + 7) / 8 - 1) + 1))))
    → Matches old s i → LeavesCode new i s.width
whole_added old new s i bits first tell value len all_bytes told fits ends some value_is adds is =
    whole_by old new s i bits first tell len all_bytes told fits ends is
    (λ sent.
    let bytes = (bits + 7) / 8 in
    let left = ends.left in
    let shift = is.shift in
    let raw = is.raw in
    let unit = 8 * length old - (8 * s.sent + bits) in
    let at : (s.sent + bytes - 1) + 1 ≡ s.sent + bytes = omega arith in
    let place : value * 2 ^ (8 * (length old - ((s.sent + bytes - 1) + 1))) ≡ first * 2 ^ (8 * bytes - bits) * 2 ^ (8 * (length old - (s.sent + bytes))) =
    ap (λ n. value * 2 ^ (8 * (length old - n))) at ∙ ap (λ n. n * 2 ^ (8 * (length old - (s.sent + bytes)))) value_is in
    let sum = end_number (length old) s.sent bits bytes sent.front first (omega arith) (omega arith) in
    let number_was = sent.number_is in
    let target : number old + value * 2 ^ (8 * (length old - ((s.sent + bytes - 1) + 1))) ≡ (sent.front * 2 ^ bits + first) * 2 ^ unit + i.bits = omega arith in
    let e = ends.ending i sent.front sent.low (sym is.width) in
    let block = block_small i bits (sent.front * 2 ^ bits + first) is.below e.block.few e.block.below in
    let block_is : sent.front * 2 ^ bits + first < 2 ^ (8 * s.sent + bits) = subst (λ n. sent.front * 2 ^ bits + first < 2 ^ (n + bits)) shift block in
    let rest : i.bits < 2 ^ s.raw = subst (λ n. i.bits < 2 ^ n) raw is.bits in
    let small = number_small (sent.front * 2 ^ bits + first) i.bits (8 * s.sent + bits) s.raw unit block_is rest (omega arith) in
    let all : 2 ^ ((8 * s.sent + bits) + unit) ≡ 2 ^ (8 * length old) = ap (λ n. 2 ^ n) (let q : (8 * s.sent + bits) + unit ≡ 8 * length old = omega arith in q) in
    adds (omega arith) ∙ target)

-- no bit is needed: the front alone tells the interval
none_is_zero : (s : Sender) (i : Interval) (front first : ℕ) → i.low ≡ front * 2 ^ 31 + s.low → i.width ≡ s.width
    → (front * 2 ^ 0 + first + 1) * 2 ^ (31 - 0) ≤ i.low + i.width → first ≡ 0
none_is_zero s i front first low width below = let within = s.within in omega arith

pub whole_front : (old : List ℕ) (s : Sender) (i : Interval) (bits first tell : ℕ) → ((k : ℕ) → slice_index old k < 256)
    → tell ≡ tell_of (sender_pace s) → tell ≤ 8 * length old → Ends s (length old) bits first → bits ≡ 0
    → Matches old s i → LeavesCode old i s.width
whole_front old s i bits first tell all_bytes told fits ends none is =
    whole_by old old s i bits first tell refl all_bytes told fits ends is
    (λ sent.
    let e = subst (λ k. IsEnding i k (sent.front * 2 ^ k + first)) none (ends.ending i sent.front sent.low (sym is.width)) in
    let zero_is = none_is_zero s i sent.front first sent.low (sym is.width) e.block.below in
    let front_is : sent.front * 2 ^ bits + first ≡ sent.front = ap (λ k. sent.front * 2 ^ k + first) none ∙ omega arith in
    let unit : 8 * (length old - s.sent) ≡ 8 * length old - (8 * s.sent + bits) = omega arith in
    sent.number_is ∙ ap (λ n. sent.front * 2 ^ n + i.bits) unit ∙ ap (λ n. n * 2 ^ (8 * length old - (8 * s.sent + bits)) + i.bits) (sym front_is))
