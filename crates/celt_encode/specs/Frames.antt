-- The encoded frame: the code of the choice, where it fits; elsewhere that of a silent frame.
use Rattle.std.specs.Prelude.{ℕ, ◌*◌, nat_le, if◌then◌else◌, pos, List, [], ◌∷◌, Option, Some, None}
use Rattle.celt_base.specs.declared.question.Question.TheVariants.{Bit}
use Rattle.celt_base.specs.Questions.{Answered}
use Rattle.celt_base.specs.Walks.{answered_in}
use Rattle.frame_symbols.specs.Frames.{Sound, frame_script, first_pace}
use Rattle.range_coder.specs.Codes.{told}
use Rattle.celt_encode.specs.Choices.{Chosen, choose}
use Rattle.celt_encode.specs.Codes.{code_of}
use Rattle.celt_encode.specs.Outsets.{Outset}
use Rattle.celt_encode.specs.Standing.{noted, begun}
use Rattle.celt_encode.specs.Wanted.{wanted}

-- The choice of a frame's script.
unfoldable pub choice_of : Outset → Chosen (Option Sound)
choice_of f = choose noted wanted (begun f) (frame_script f.kind f.len) first_pace

-- its questions with their answers
unfoldable pub chosen_list : Outset → List Answered
chosen_list f = answered_in (choice_of f).events

-- the one answer of a silent frame
unfoldable pub silence_list : List Answered
silence_list = record { question = Bit 15; answer = pos 1 } ∷ []

-- The answers that are kept: the choice's, where they tell at most the bits that the frame has.
unfoldable pub kept_of : Outset → List Answered
kept_of f = if nat_le (told (chosen_list f)) (8 * f.len) then chosen_list f else silence_list

-- The bits that the choice tells, where the frame has fewer.
unfoldable pub fell_of : Outset → Option ℕ
fell_of f = if nat_le (told (chosen_list f)) (8 * f.len) then None else Some (told (chosen_list f))

-- The encoded frame.
unfoldable pub frame_of : Outset → List ℕ
frame_of f = code_of (kept_of f) f.len
