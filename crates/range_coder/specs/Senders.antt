-- What the state of a writer and its room stand for.
use Rattle.std.specs.Prelude.{◌≡◌, ℕ, ◌+◌, ◌-◌, ◌*◌, ◌^◌, ◌<◌, ◌≤◌, List, length, replicate, ℤ}
use Rattle.celt_base.specs.Intervals.{Interval, Symbol, after}
use Rattle.celt_base.specs.Paces.{Pace, pace_of, after_pace, paced, tell_of}
use Rattle.celt_base.specs.declared.question.Question.{Question}
use Rattle.celt_base.specs.Questions.{after_answer}
use Rattle.range_coder.specs.declared.sender.Sender.{Sender}
use Rattle.range_coder.specs.declared.sender.Finish.{Finish}
use Rattle.range_coder.specs.declared.sender.Finish.TheVariants.{Whole, Overrun}
use Rattle.range_coder.specs.FrameBits.{number}
use Rattle.range_coder.specs.Codes.{IsCodeOf}

abbrev pub sender_pace : Sender → Pace
sender_pace s = record { width = s.width; bits = 33 + 8 * s.sent + s.raw }

-- The bytes at the front of the room are the part of the low end that was sent, and the raw bits stand at its end.
pub record IsSent (room : List ℕ) (s : Sender) (i : Interval) : Type 0 where
  pub front : ℕ
  pub low : i.low ≡ front * 2 ^ 31 + s.low
  pub number_is : number room ≡ front * 2 ^ (8 * (length room - s.sent)) + i.bits

-- The state stands at the interval. Of the room nothing is said once the bytes and the raw bits are more than it holds.
pub record Matches (room : List ℕ) (s : Sender) (i : Interval) : Type 0 where
  pub width : s.width ≡ i.width
  pub shift : i.shift ≡ 8 * s.sent
  pub raw : i.raw ≡ s.raw
  pub below : i.low + i.width ≤ 2 ^ (31 + i.shift)
  pub bits : i.bits < 2 ^ i.raw
  pub sent : 8 * s.sent + s.raw ≤ 8 * length room → IsSent room s i

-- A symbol was sent.
pub record Sends (old : List ℕ) (before : Sender) (symbol : Symbol) (new : List ℕ) (now : Sender) : Type 0 where
  pub matches : (i : Interval) → Matches old before i → Matches new now (after i symbol)
  pub pace : sender_pace now ≡ after_pace (sender_pace before) symbol

-- An answer was sent.
pub record SendsAnswer (old : List ℕ) (before : Sender) (question : Question) (answer : ℤ) (new : List ℕ) (now : Sender) : Type 0 where
  pub matches : (i : Interval) → Matches old before i
      → Matches new now (after_answer i (record { question = question; answer = answer }))
  pub pace : sender_pace now ≡ paced question answer (sender_pace before)

-- What an interval leaves in a room at the end: its code, or nothing where it tells more bits than there is room for.
pub record LeavesCode (room : List ℕ) (i : Interval) (range : ℕ) : Type 0 where
  pub fits : tell_of (pace_of i) ≤ 8 * length room
  pub code : IsCodeOf i (length room) room
  pub range_is : range ≡ i.width

pub record LeavesZero (room : List ℕ) (i : Interval) (tell : ℕ) : Type 0 where
  pub more : 8 * length room < tell
  pub tell_is : tell ≡ tell_of (pace_of i)
  pub zero : room ≡ replicate (length room) 0

abbrev pub Leaves : List ℕ → Interval → Finish → Type 0
Leaves room i (Whole range) = LeavesCode room i range
Leaves room i (Overrun tell) = LeavesZero room i tell
