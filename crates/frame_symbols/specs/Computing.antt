-- A frame's answers and its reading, computed: of the numbers that a question may be answered with the one whose part holds
-- the frame's number (RFC 6716, section 4.1).
use Rattle.std.specs.Prelude.{ℕ, zero, suc, ◌+◌, ◌-◌, ◌*◌, ◌/◌, ◌%◌, ◌^◌, min, Bool, true, ◌&&◌, nat_eq, nat_le, nat_lt, if◌then◌else◌, List, [], ◌∷◌, ℤ, pos, negsuc}
use Rattle.celt_base.specs.declared.question.Question.{Question}
use Rattle.celt_base.specs.declared.question.Question.TheVariants.{Bit, Table, Uniform, Laplace, Step, Triangle, Raw}
use Rattle.celt_base.specs.Intervals.{Symbol, InPart, InBits, Interval, narrowed, after}
use Rattle.celt_base.specs.Paces.{Pace, paced}
use Rattle.celt_base.specs.Questions.{Answered, answers_of, start, part_of, uniform_row, low_bits, laplace_row, steps, after_answer}
use Rattle.celt_base.specs.WalkScripts.{Script, Done, Look, Ask, Begin}
use Rattle.range_coder.specs.FrameBits.{head, tail}

-- the last number below a bound that passes a test, or 0
unfoldable pub last_below : (ℕ → Bool) → ℕ → ℕ
last_below test zero = 0
last_below test (suc n) = if test n then n else last_below test n

-- whether the frame's number is in the interval
abbrev pub holds : List ℕ → Interval → Bool
holds frame i = nat_le i.low (head frame (31 + i.shift)) && nat_lt (head frame (31 + i.shift)) (i.low + i.width)

abbrev pub reads : List ℕ → Interval → Symbol → Bool
reads frame i (InPart part) = holds frame (narrowed part i)
reads frame i (InBits count number) = nat_eq (tail frame i.raw count) number

abbrev pub all_read : List ℕ → Interval → List Symbol → Bool
all_read frame i [] = true
all_read frame i (s ∷ symbols) = reads frame i s && all_read frame (after i s) symbols

-- The answers of a question are counted: those of Laplace are 0, -1, 1, -2, 2 and so on, all others count from 0.
abbrev pub counted : Question → ℕ → ℤ
counted (Laplace fs decay) n = if nat_eq (n % 2) 0 then pos (n / 2) else negsuc (n / 2)
counted question n = pos n

-- a number above those of all answers of a question
abbrev pub count_of : Question → ℕ
count_of (Bit p) = 2
count_of (Table table) = answers_of table
count_of (Uniform limit) = limit
count_of (Laplace fs decay) = 2 ^ 16
count_of (Step most) = most + 1
count_of (Triangle most) = most + 1
count_of (Raw count) = 2 ^ count

-- whether answer n of a question is the frame's, after an interval
abbrev pub gives : List ℕ → Interval → Question → ℕ → Bool
gives frame i (Uniform limit) n =
    holds frame (narrowed (part_of (uniform_row limit) (n / 2 ^ low_bits limit)) i)
    && nat_eq n (min (limit - 1) (n / 2 ^ low_bits limit * 2 ^ low_bits limit + tail frame i.raw (low_bits limit)))
gives frame i (Laplace fs decay) n =
    nat_lt (start (laplace_row fs decay) n) (2 ^ 15) && holds frame (narrowed (part_of (laplace_row fs decay) n) i)
gives frame i question n = all_read frame i (steps question (pos n))

-- the frame's answer of a question after an interval
unfoldable pub answer_of : List ℕ → Interval → Question → ℤ
answer_of frame i question = counted question (last_below (gives frame i question) (count_of question))

abbrev pub answered : List ℕ → Interval → Question → Answered
answered frame i question = record { question = question; answer = answer_of frame i question }

-- What a script comes to where a frame answers its questions, and the questions with their answers.
pub record ReadBy (A : Type 0) : Type 0 where
  pub value : A
  pub list : List Answered

abbrev pub begins_with : {A : Type 0} → Answered → ReadBy A → ReadBy A
begins_with a r = record { value = r.value; list = a ∷ r.list }

abbrev pub read_by : {A : Type 0} → List ℕ → Script A → Pace → Interval → ReadBy A
read_by frame (Done value) pace i = record { value = value; list = [] }
read_by frame (Look look) pace i = read_by frame (look pace) pace i
read_by frame (Begin at script) pace i = read_by frame script pace i
read_by frame (Ask at question follow) pace i =
    begins_with (answered frame i question)
    (read_by frame (follow (answer_of frame i question)) (paced question (answer_of frame i question) pace) (after_answer i (answered frame i question)))
