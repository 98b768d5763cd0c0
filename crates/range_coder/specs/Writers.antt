-- What a writer stands for: a list of questions with answers, whose interval its room and its state are at.
use Rattle.std.specs.Prelude.{◌≡◌, ℕ, ◌*◌, ◌<◌, List, [], ◌∷◌, ◌++◌, length, replicate, ℤ}
use Rattle.celt_base.specs.declared.question.Question.{Question}
use Rattle.celt_base.specs.Questions.{Answered, interval_of}
use Rattle.celt_base.specs.Paces.{Pace}
use Rattle.celt_base.specs.WalkCalls.{CoderCalls}
use Rattle.range_coder.specs.declared.sender.Finish.{Finish}
use Rattle.range_coder.specs.declared.sender.Finish.TheVariants.{Whole, Overrun}
use Rattle.range_coder.specs.declared.writer.Writer.{Writer}
use Rattle.range_coder.specs.Codes.{AreAnswers, told, IsCode}
use Rattle.range_coder.specs.Nearest.{IsNearest}
use Rattle.range_coder.specs.Senders.{sender_pace, Matches}

abbrev pub writer_pace : Writer → Pace
writer_pace w = sender_pace w.sender

-- How many questions it was asked.
abbrev pub writer_count : Writer → ℕ
writer_count w = w.asked

pub record HasCoded (w : Writer) (list : List Answered) : Type 0 where
  pub matches : Matches w.room.now w.sender (interval_of list)
  pub count : w.asked ≡ length list
  pub answers : AreAnswers list

-- A call of `ask`: the answer is the one nearest to what was wanted, and for every list that the writer stood for, it stands
-- for that list with this question and answer. The room is the one that was lent.
pub record Writes (before : Writer) (question : Question) (wanted answer : ℤ) (now : Writer) : Type 0 where
  pub nearest : IsNearest question wanted answer
  pub longer : (list : List Answered) → HasCoded before list
      → HasCoded now (list ++ record { question = question; answer = answer } ∷ [])
  pub same : now.room.ghost_name ≡ before.room.ghost_name
  pub length_is : length now.room.now ≡ length before.room.now

-- At the end: the room is the code of the list, or zero where the list tells more bits than it has.
pub record IsWhole (room : List ℕ) (list : List Answered) (range : ℕ) : Type 0 where
  pub code : IsCode list (length room) room
  pub range_is : range ≡ (interval_of list).width

pub record IsOverrun (room : List ℕ) (list : List Answered) (tell : ℕ) : Type 0 where
  pub tell_is : tell ≡ told list
  pub more : 8 * length room < tell
  pub zero : room ≡ replicate (length room) 0

abbrev pub IsFinished : List ℕ → List Answered → Finish → Type 0
IsFinished room list (Whole range) = IsWhole room list range
IsFinished room list (Overrun tell) = IsOverrun room list tell

-- The writer as a coder.
abbrev pub writer_calls : CoderCalls Writer
writer_calls = record {
  pace = writer_pace;
  count = writer_count;
  Asks = λ before question wanted answer now. Writes before question wanted answer now;
}
