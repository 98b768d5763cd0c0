-- What a frame answers (RFC 6716, section 4.1): the answer of which the part holds the frame's number.
use Rattle.std.specs.Prelude.{◌≡◌, ℕ, ◌+◌, ◌-◌, ◌*◌, ◌/◌, ◌^◌, ◌<◌, ◌≤◌, min, ⊤, List, [], ◌∷◌, ℤ, pos, negsuc, nat_lt, if◌then◌else◌}
use Rattle.celt_base.specs.declared.question.Question.{Question}
use Rattle.celt_base.specs.declared.question.Question.TheVariants.{Uniform}
use Rattle.celt_base.specs.Intervals.{Symbol, InPart, InBits, Interval, whole, narrowed, after}
use Rattle.celt_base.specs.Questions.{Answered, IsAnswer, steps, part_of, uniform_row, low_bits, after_answer, interval_of}
use Rattle.range_coder.specs.FrameBits.{head, tail}

-- The frame's number is in the interval. The upper end is outside.
pub record Holds (frame : List ℕ) (i : Interval) : Type 0 where
  pub above : i.low ≤ head frame (31 + i.shift)
  pub below : head frame (31 + i.shift) < i.low + i.width

abbrev pub IsRead : List ℕ → Interval → Symbol → Type 0
IsRead frame i (InPart part) = Holds frame (narrowed part i)
IsRead frame i (InBits count number) = tail frame i.raw count ≡ number

abbrev pub AreRead : List ℕ → Interval → List Symbol → Type 0
AreRead frame i [] = ⊤
AreRead frame i (s ∷ symbols) = IsRead frame i s × AreRead frame (after i s) symbols

-- A number below a limit: its upper bits are the part that holds the frame's number, those below them are raw, and what
-- is past the last number is the last one (RFC 6716, section 4.1.5).
pub record IsNumber (frame : List ℕ) (i : Interval) (limit n : ℕ) : Type 0 where
  pub top : Holds frame (narrowed (part_of (uniform_row limit) (n / 2 ^ low_bits limit)) i)
  pub number : n ≡ min (limit - 1) (n / 2 ^ low_bits limit * 2 ^ low_bits limit + tail frame i.raw (low_bits limit))

abbrev pub IsNumberRead : List ℕ → Interval → ℕ → ℤ → Type 0
IsNumberRead frame i limit (pos n) = IsNumber frame i limit n
IsNumberRead frame i limit (negsuc n) = ⊥

abbrev pub IsGiven : List ℕ → Interval → Question → ℤ → Type 0
IsGiven frame i (Uniform limit) answer = IsNumberRead frame i limit answer
IsGiven frame i question answer = AreRead frame i (steps question answer)

-- The frame's answer of a question after an interval.
pub record Answers (frame : List ℕ) (i : Interval) (question : Question) (answer : ℤ) : Type 0 where
  pub is_answer : IsAnswer question answer
  pub read : IsGiven frame i question answer

-- Each answer of the list is the frame's, after those before it.
abbrev pub AnswersFrom : List ℕ → Interval → List Answered → Type 0
AnswersFrom frame i [] = ⊤
AnswersFrom frame i (a ∷ list) = Answers frame i a.question a.answer × AnswersFrom frame (after_answer i a) list

-- The answer of Bit(p) after an interval, computed: 1 from the upper `width / 2^p` on.
unfoldable pub bit_of : List ℕ → Interval → ℕ → ℕ
bit_of frame i p = if nat_lt (head frame (31 + i.shift)) (i.low + (i.width - i.width / 2 ^ p)) then 0 else 1

-- The same after a list of questions with answers, and at the start of a frame.
abbrev pub bit_after : List ℕ → List Answered → ℕ → ℕ
bit_after frame list p = bit_of frame (interval_of list) p

unfoldable pub first_bit : List ℕ → ℕ → ℕ
first_bit frame p = bit_of frame whole p
