-- Each list of answers that tells no more bits than a length has a code of that length.
use Rattle.std.proofs.Common.{◌≡◌, ℕ, zero, suc, ◌+◌, ◌-◌, ◌*◌, ◌/◌, ◌%◌, ◌^◌, ◌<◌, ◌≤◌, inl, inr, List, [], ◌∷◌, length, refl, sym, ap, ◌∙◌, arith}
use Rattle.std.proofs.lemmas.Bool.{cases_lt}
use Rattle.std.proofs.lemmas.Nat.{pow-add, pow_pos, mul-le, mod-pow-add}
use Rattle.std.proofs.Math.Nat.{pow-le-pow_right, mod-eq_of_lt}
use Rattle.celt_base.specs.Intervals.{Interval}
use Rattle.celt_base.specs.Questions.{Answered, interval_of}
use Rattle.celt_base.proofs.Narrowing.{interval_is}
use Rattle.range_coder.specs.FrameBits.{front, number}
use Rattle.range_coder.specs.Codes.{IsEnding, IsCodeOf, AreAnswers, FitTypes, told, IsCode}
use Rattle.range_coder.proofs.Bits.{front_more}
use Rattle.range_coder.proofs.CodeNumbers.{AreBytes}
use Rattle.range_coder.proofs.CodeReading.{RawFits, interval_fits}
use Rattle.range_coder.proofs.CodeLaws.{list_apart}
use Rattle.range_coder.proofs.CodeWidths.{list_ending}

-- the bytes of a number, the highest one first
abbrev spelled : ℕ → ℕ → List ℕ
spelled zero n = []
spelled (suc count) n = n / 2 ^ (8 * count) % 256 ∷ spelled count n

spelled_length : (count n : ℕ) → length (spelled count n) ≡ count
spelled_length zero n = refl
spelled_length (suc count) n = ap suc (spelled_length count n)

spelled_bytes : (count n : ℕ) → AreBytes (spelled count n)
spelled_bytes zero n place = omega arith
spelled_bytes (suc count) n zero = omega arith
spelled_bytes (suc count) n (suc place) = spelled_bytes count n place

front_of : (byte : ℕ) (bytes : List ℕ) (count : ℕ) → front (byte ∷ bytes) (suc count) ≡ byte * 2 ^ (8 * count) + front bytes count
unfolding front
front_of byte bytes zero = omega arith
front_of byte bytes (suc count) =
    let before = front_of byte bytes count in
    let more = front_more (byte ∷ bytes) (suc count) in
    let own = front_more bytes count in
    let power : 2 ^ (8 * suc count) ≡ 2 ^ (8 * count) * 256 = ap (λ k. 2 ^ k) (let e : 8 * suc count ≡ 8 * count + 8 = omega arith in e) ∙ pow-add 2 (8 * count) 8 in
    let product = ap (λ n. byte * n) power in
    omega arith

spelled_front : (count n : ℕ) → front (spelled count n) count ≡ n % 2 ^ (8 * count)
unfolding front
spelled_front zero n = omega arith
spelled_front (suc count) n =
    let split = mod-pow-add n 8 (8 * count) in
    let power : n % 2 ^ (8 * suc count) ≡ n % 2 ^ (8 + 8 * count) = ap (λ k. n % 2 ^ k) (let e : 8 * suc count ≡ 8 + 8 * count = omega arith in e) in
    front_of (n / 2 ^ (8 * count) % 256) (spelled count n) count
    ∙ ap (λ m. n / 2 ^ (8 * count) % 256 * 2 ^ (8 * count) + m) (spelled_front count n)
    ∙ sym split ∙ sym power

spelled_number : (count n : ℕ) → n < 2 ^ (8 * count) → number (spelled count n) ≡ n
unfolding number
spelled_number count n below =
    ap (front (spelled count n)) (spelled_length count n) ∙ spelled_front count n ∙ mod-eq_of_lt below

-- the first bits of an ending are as many as are counted
first_small : (low width shift bits first : ℕ) → bits ≤ 31 → low + width ≤ 2 ^ (31 + shift) → (first + 1) * 2 ^ (31 - bits) ≤ low + width → first < 2 ^ (shift + bits)
first_small low width shift bits first few within below =
    let unit = 2 ^ (31 - bits) in
    let power : 2 ^ (31 + shift) ≡ 2 ^ (shift + bits) * unit =
    ap (λ k. 2 ^ k) (let e : 31 + shift ≡ (shift + bits) + (31 - bits) = omega arith in e) ∙ pow-add 2 (shift + bits) (31 - bits) in
    elim (cases_lt first (2 ^ (shift + bits))) [
      | inl less ↦ less
      | inr past ↦
          let some = pow_pos (31 - bits) in
          let product = mul-le (2 ^ (shift + bits)) unit first unit past (omega arith) in
          absurd (omega arith)
    ]

number_small : (first last count end : ℕ) → first < 2 ^ count → last < 2 ^ end → first * 2 ^ end + last < 2 ^ (count + end)
number_small first last count end top low =
    let power = pow-add 2 count end in
    let most = mul-le (first + 1) (2 ^ end) (2 ^ count) (2 ^ end) (omega arith) (omega arith) in
    omega arith

interval_code : (i : Interval) (bits first len : ℕ) → i.low + i.width ≤ 2 ^ (31 + i.shift) → IsEnding i bits first → RawFits i
    → i.shift + bits + i.raw ≤ 8 * len → (frame : List ℕ) × IsCodeOf i len frame
interval_code i bits first len within is fits apart =
    let end = 8 * len - (i.shift + bits) in
    let n = first * 2 ^ end + i.bits in
    let top = first_small i.low i.width i.shift bits first is.block.few within is.block.below in
    let enough : 2 ^ i.raw ≤ 2 ^ end = pow-le-pow_right {n = 2} (omega arith) (omega arith) in
    let whole : 2 ^ ((i.shift + bits) + end) ≡ 2 ^ (8 * len) = ap (λ k. 2 ^ k) (let e : (i.shift + bits) + end ≡ 8 * len = omega arith in e) in
    let small = number_small first i.bits (i.shift + bits) end top (omega arith) in (
      spelled len n,
      record {
        length_is = spelled_length len n;
        bytes = spelled_bytes len n;
        bits = bits;
        first = first;
        ending = is;
        number_is = spelled_number len n (omega arith);
      },
    )

pub has_code : (list : List Answered) (len : ℕ) → AreAnswers list → FitTypes list → told list ≤ 8 * len → (frame : List ℕ) × IsCode list len frame
has_code list len are words fits =
    let ending = list_ending list are words in
    let apart = list_apart list ending.bits ending.first ending.is in
    let code = interval_code (interval_of list) ending.bits ending.first len (interval_is list).below ending.is (interval_fits list are) (omega arith) in
    (code.0, record { fits = fits; code = code.1 })
