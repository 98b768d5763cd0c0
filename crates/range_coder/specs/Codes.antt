-- The frame that a list of questions with answers codes (RFC 6716, sections 5.1.4 and 5.1.5): its first bits name a block of
-- numbers in the list's interval, and its last ones are the raw bits.
use Rattle.std.specs.Prelude.{◌≡◌, ℕ, ◌+◌, ◌-◌, ◌*◌, ◌^◌, ◌<◌, ◌≤◌, ⊤, List, [], ◌∷◌, length, slice_index}
use Rattle.celt_base.specs.declared.question.Question.{Question}
use Rattle.celt_base.specs.declared.question.Question.TheVariants.{Uniform}
use Rattle.celt_base.specs.Intervals.{Interval}
use Rattle.celt_base.specs.Questions.{Answered, IsValid, IsAnswer, interval_of}
use Rattle.celt_base.specs.Paces.{pace_of, tell_of}
use Rattle.range_coder.specs.FrameBits.{number}

-- The numbers of 31 + shift bits whose first shift + k bits are `first` are all in the interval: whatever bits follow those,
-- they decide.
pub record IsBlock (i : Interval) (k first : ℕ) : Type 0 where
  pub few : k ≤ 31
  pub above : i.low ≤ first * 2 ^ (31 - k)
  pub below : (first + 1) * 2 ^ (31 - k) ≤ i.low + i.width

-- The block of the fewest bits, and of those the lowest.
pub record IsEnding (i : Interval) (k first : ℕ) : Type 0 where
  pub block : IsBlock i k first
  pub fewest : (bits other : ℕ) → IsBlock i bits other → k ≤ bits
  pub lowest : (other : ℕ) → IsBlock i k other → first ≤ other

-- A frame of `len` bytes: the first bits of the block, then zeros, and at the end the raw bits. As a number, the raw bits
-- stand lowest.
pub record IsCodeOf (i : Interval) (len : ℕ) (frame : List ℕ) : Type 0 where
  pub length_is : length frame ≡ len
  pub bytes : (place : ℕ) → slice_index frame place < 256
  pub bits : ℕ
  pub first : ℕ
  pub ending : IsEnding i bits first
  pub number_is : number frame ≡ first * 2 ^ (8 * len - (i.shift + bits)) + i.bits

-- Each question is valid, and its answer is one of its answers.
abbrev pub AreAnswers : List Answered → Type 0
AreAnswers [] = ⊤
AreAnswers (a ∷ list) = IsValid a.question × IsAnswer a.question a.answer × AreAnswers list

-- The number of a Uniform has 32 bits, as its type says. Of the other kinds no valid question has a larger one.
abbrev pub FitsType : Question → Type 0
FitsType (Uniform limit) = limit < 2 ^ 32
FitsType question = ⊤

abbrev pub FitTypes : List Answered → Type 0
FitTypes [] = ⊤
FitTypes (a ∷ list) = FitsType a.question × FitTypes list

-- The bits that a list tells.
abbrev pub told : List Answered → ℕ
told list = tell_of (pace_of (interval_of list))

-- The code of a list that tells no more bits than the frame has.
pub record IsCode (list : List Answered) (len : ℕ) (frame : List ℕ) : Type 0 where
  pub fits : told list ≤ 8 * len
  pub code : IsCodeOf (interval_of list) len frame
