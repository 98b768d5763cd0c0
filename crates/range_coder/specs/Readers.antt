-- What a reader stands for: the frame that it reads and a list of questions with their answers.
use Rattle.std.specs.Prelude.{◌≡◌, ℕ, List, [], ◌∷◌, ◌++◌, length, ℤ}
use Rattle.celt_base.specs.declared.question.Question.{Question}
use Rattle.celt_base.specs.Questions.{Answered, interval_of}
use Rattle.celt_base.specs.Paces.{Pace}
use Rattle.celt_base.specs.WalkCalls.{CoderCalls}
use Rattle.range_coder.specs.declared.reader.Reader.{Reader}
use Rattle.range_coder.specs.Reading.{Answers}
use Rattle.range_coder.specs.Windows.{Shows, window_pace}

abbrev pub reader_pace : Reader → Pace
reader_pace r = window_pace r.window

-- How many questions it was asked.
abbrev pub reader_count : Reader → ℕ
reader_count r = r.asked

pub record StandsFor (frame : List ℕ) (r : Reader) (list : List Answered) : Type 0 where
  pub frame_is : r.frame.now ≡ frame
  pub shows : Shows frame r.window (interval_of list)
  pub count : r.asked ≡ length list

-- A call of `ask`: for every list that the reader stood for, the answer is the frame's, and it stands for that list with
-- this question and answer.
pub record Reads (before : Reader) (question : Question) (answer : ℤ) (now : Reader) : Type 0 where
  pub longer : (frame : List ℕ) (list : List Answered) → StandsFor frame before list
      → StandsFor frame now (list ++ record { question = question; answer = answer } ∷ [])
  pub answers : (frame : List ℕ) (list : List Answered) → StandsFor frame before list
      → Answers frame (interval_of list) question answer

-- The reader as a coder: what is wanted is passed over.
abbrev pub reader_calls : CoderCalls Reader
reader_calls = record {
  pace = reader_pace;
  count = reader_count;
  Asks = λ before question wanted answer now. Reads before question answer now;
}
