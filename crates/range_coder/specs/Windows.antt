-- What the window of a reader shows of its frame.
use Rattle.std.specs.Prelude.{◌≡◌, ℕ, ◌+◌, ◌-◌, ◌*◌, ◌/◌, min, List, slice_index, ℤ}
use Rattle.std.specs.List.{fold}
use Rattle.celt_base.specs.declared.question.Question.{Question}
use Rattle.celt_base.specs.Intervals.{Part, Interval, InPart, depth, narrowed, after}
use Rattle.celt_base.specs.Paces.{Pace, after_pace, paced}
use Rattle.celt_base.specs.Questions.{IsAnswer, steps}
use Rattle.range_coder.specs.declared.window.Window.{Window}
use Rattle.range_coder.specs.FrameBits.{head}
use Rattle.range_coder.specs.Reading.{Holds, IsGiven}

abbrev pub window_pace : Window → Pace
window_pace w = record { width = w.width; bits = w.bits }

-- The window stands at the interval's width and count of bits, and knows how far the frame's number is below the last
-- number of the interval.
pub record Shows (frame : List ℕ) (w : Window) (i : Interval) : Type 0 where
  pub width : w.width ≡ i.width
  pub bits : w.bits ≡ 33 + i.shift + i.raw
  pub taken : 8 * w.taken ≡ 32 + i.shift
  pub last : w.last ≡ slice_index frame (w.taken - 1)
  pub number : i.low + i.width ≡ w.distance + head frame (31 + i.shift) + 1

-- How far the two ends of a part lie below the upper end of an interval of this width.
pub record IsCut (width : ℕ) (part : Part) (lower upper : ℕ) : Type 0 where
  pub from : lower ≡ depth width part.total part.from
  pub to : upper ≡ depth width part.total part.to

-- The place of the total at which the frame's number lies (RFC 6716, section 4.1.2).
abbrev pub value_of : Window → ℕ → ℕ
value_of w total = total - min (w.distance / (w.width / total) + 1) total

-- The number is in the part, and the window is the one after it.
pub record TakesPart (frame : List ℕ) (before : Window) (part : Part) (now : Window) : Type 0 where
  pub holds : (i : Interval) → Shows frame before i → Holds frame (narrowed part i)
  pub shows : (i : Interval) → Shows frame before i → Shows frame now (after i (InPart part))
  pub pace : window_pace now ≡ after_pace (window_pace before) (InPart part)

-- The answer is the frame's, and the window is the one after it.
pub record TakesAnswer (frame : List ℕ) (before : Window) (question : Question) (answer : ℤ) (now : Window) : Type 0 where
  pub is_answer : IsAnswer question answer
  pub given : (i : Interval) → Shows frame before i → IsGiven frame i question answer
  pub shows : (i : Interval) → Shows frame before i → Shows frame now (fold after i (steps question answer))
  pub pace : window_pace now ≡ paced question answer (window_pace before)
