-- The code of a list is read to that list, and it is one frame alone.
use Rattle.std.proofs.Common.{◌≡◌, ℕ, ◌+◌, ◌-◌, ◌*◌, ◌/◌, ◌%◌, ◌^◌, ◌<◌, ◌≤◌, List, map, sym, ap, ◌∙◌, subst, arith}
use Rattle.std.proofs.Math.Nat.{pow-le-pow_right}
use Rattle.celt_base.specs.Intervals.{Interval, whole}
use Rattle.celt_base.specs.Questions.{Answered, interval_of}
use Rattle.celt_base.proofs.Narrowing.{interval_is}
use Rattle.range_coder.specs.FrameBits.{number, head, tail}
use Rattle.range_coder.specs.Reading.{AnswersFrom}
use Rattle.range_coder.specs.Codes.{IsEnding, IsCodeOf, AreAnswers, told, IsCode}
use Rattle.range_coder.proofs.Answering.{reading_determined}
use Rattle.range_coder.proofs.CodeNumbers.{IsBetween, head_number, number_same, first_bits, last_bits, between_bits, tail_number, tail_end}
use Rattle.range_coder.proofs.CodeEndings.{ending_apart, ending_one}
use Rattle.range_coder.proofs.CodeReading.{Inside, interval_fits, inside_answers}

-- head and tail do not meet
pub list_apart : (list : List Answered) (bits first : ℕ) → IsEnding (interval_of list) bits first
    → (interval_of list).shift + bits + (interval_of list).raw ≤ told list
list_apart list bits first is = ending_apart (interval_of list) bits first (interval_is list).narrow is

pub record HasRoom (i : Interval) (len : ℕ) (frame : List ℕ) (code : IsCodeOf i len frame) : Type 0 where
  pub apart : i.shift + code.bits + i.raw ≤ 8 * len
  pub small : i.bits < 2 ^ i.raw

code_room : (list : List Answered) (len : ℕ) (frame : List ℕ) → AreAnswers list → (code : IsCode list len frame) → HasRoom (interval_of list) len frame code.code
code_room list len frame are code =
    let apart = list_apart list code.code.bits code.code.first code.code.ending in
    let fits = code.fits in
    record { apart = omega arith; small = interval_fits list are }

-- the first bits of a code, and zeros behind them
code_head : (i : Interval) (len : ℕ) (frame : List ℕ) (code : IsCodeOf i len frame) → HasRoom i len frame code
    → (count left : ℕ) → count ≡ i.shift + code.bits + left → IsBetween (code.first * 2 ^ left) ((code.first + 1) * 2 ^ left) (head frame count)
code_head i len frame code room count left e =
    let apart = room.apart in
    let small = room.small in
    let end = 8 * len - (i.shift + code.bits) in
    let enough : 2 ^ i.raw ≤ 2 ^ end = pow-le-pow_right {n = 2} (omega arith) (omega arith) in
    let number_of : head frame count ≡ (code.first * 2 ^ end + i.bits) * 2 ^ count / 2 ^ (8 * len) =
    head_number frame count code.bytes
    ∙ ap (λ n. number frame * 2 ^ count / 2 ^ (8 * n)) code.length_is
    ∙ ap (λ n. n * 2 ^ count / 2 ^ (8 * len)) code.number_is in
    subst (IsBetween (code.first * 2 ^ left) ((code.first + 1) * 2 ^ left)) (sym number_of)
    (first_bits code.first i.bits end count (8 * len) left (omega arith) (omega arith))

code_end : (i : Interval) (len : ℕ) (frame : List ℕ) (code : IsCodeOf i len frame) → HasRoom i len frame code → tail frame 0 i.raw ≡ i.bits
code_end i len frame code room =
    let apart = room.apart in
    let end = 8 * len - (i.shift + code.bits) in
    tail_end frame i.raw ∙ ap (λ n. n % 2 ^ i.raw) code.number_is ∙ last_bits code.first i.bits i.raw end room.small (omega arith)

code_middle : (i : Interval) (len : ℕ) (frame : List ℕ) (code : IsCodeOf i len frame) → HasRoom i len frame code
    → tail frame i.raw (8 * len - (i.shift + code.bits) - i.raw) ≡ 0
code_middle i len frame code room =
    let apart = room.apart in
    let end = 8 * len - (i.shift + code.bits) in
    tail_number frame i.raw (end - i.raw)
    ∙ ap (λ n. n / 2 ^ i.raw % 2 ^ (end - i.raw)) code.number_is
    ∙ between_bits code.first i.bits i.raw end room.small (omega arith)

-- so it is in the interval
code_inside : (i : Interval) (len : ℕ) (frame : List ℕ) (code : IsCodeOf i len frame) → HasRoom i len frame code → Inside frame i
code_inside i len frame code room =
    let block = code.ending.block in
    let few = block.few in
    let above = block.above in
    let below = block.below in
    let first = code_head i len frame code room (31 + i.shift) (31 - code.bits) (omega arith) in
    let low = first.above in
    let high = first.below in
    record { holds = record { above = omega arith; below = omega arith }; raw_is = code_end i len frame code room }

pub code_is_read : (list : List Answered) (len : ℕ) (frame : List ℕ) → AreAnswers list → IsCode list len frame → AnswersFrom frame whole list
code_is_read list len frame are code =
    inside_answers frame list code.code.bytes are
    (code_inside (interval_of list) len frame code.code (code_room list len frame are code))

pub only_list : (list other : List Answered) (len : ℕ) (frame : List ℕ) → AreAnswers list → IsCode list len frame
    → map (λ a. a.question) other ≡ map (λ a. a.question) list → AnswersFrom frame whole other → other ≡ list
only_list list other len frame are code same reads =
    reading_determined frame whole other list same reads (code_is_read list len frame are code)

-- the bits of a code
pub code_first : (list : List Answered) (len : ℕ) (frame : List ℕ) → AreAnswers list → (code : IsCode list len frame)
    → head frame ((interval_of list).shift + code.code.bits) ≡ code.code.first
code_first list len frame are code =
    let i = interval_of list in
    let first = code_head i len frame code.code (code_room list len frame are code) (i.shift + code.code.bits) 0 (omega arith) in
    let low = first.above in
    let high = first.below in
    omega arith

pub code_last : (list : List Answered) (len : ℕ) (frame : List ℕ) → AreAnswers list → IsCode list len frame
    → tail frame 0 (interval_of list).raw ≡ (interval_of list).bits
code_last list len frame are code = code_end (interval_of list) len frame code.code (code_room list len frame are code)

pub code_between : (list : List Answered) (len : ℕ) (frame : List ℕ) → AreAnswers list → (code : IsCode list len frame)
    → tail frame (interval_of list).raw (8 * len - ((interval_of list).shift + code.code.bits) - (interval_of list).raw) ≡ 0
code_between list len frame are code = code_middle (interval_of list) len frame code.code (code_room list len frame are code)

-- one frame alone is the code of an interval
pub code_one : (i : Interval) (len : ℕ) (a b : List ℕ) → IsCodeOf i len a → IsCodeOf i len b → a ≡ b
code_one i len a b one two =
    let same = ending_one i one.bits one.first two.bits two.first one.ending two.ending in
    let numbers : number a ≡ number b =
    one.number_is
    ∙ ap (λ n. one.first * 2 ^ (8 * len - (i.shift + n)) + i.bits) same.bits_are
    ∙ ap (λ n. n * 2 ^ (8 * len - (i.shift + two.bits)) + i.bits) same.first_is
    ∙ sym two.number_is in
    number_same a b one.bytes two.bytes (one.length_is ∙ sym two.length_is) numbers

pub code_answers_one : (first second : List Answered) (m n : ℕ) (frame : List ℕ) → AreAnswers first → AreAnswers second
    → map (λ a. a.question) first ≡ map (λ a. a.question) second → IsCode first m frame → IsCode second n frame → first ≡ second
code_answers_one first second m n frame are too same one two =
    reading_determined frame whole first second same (code_is_read first m frame are one) (code_is_read second n frame too two)
