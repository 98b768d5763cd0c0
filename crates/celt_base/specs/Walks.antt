-- What a walk does: the questions and answers that a script adds, and the calls of a coder and a chooser for just these.
use Rattle.std.specs.Prelude.{◌≡◌, ℕ, ◌+◌, ℤ, List, [], ◌∷◌, length}
use Rattle.celt_base.specs.declared.coder.Enter.{Enter}
use Rattle.celt_base.specs.declared.coder.Place.{Place}
use Rattle.celt_base.specs.declared.question.Question.{Question}
use Rattle.celt_base.specs.Paces.{Pace, paced}
use Rattle.celt_base.specs.Questions.{Answered, IsValid, IsAnswer}
use Rattle.celt_base.specs.WalkCalls.{CoderCalls, ChooserCalls, Call}
use Rattle.celt_base.specs.WalkScripts.{Script, Done, Look, Ask, Begin}

-- A question at a place with its answer, or a band of one channel that is entered.
pub data Event : Type 0 where
  Asked : Place → Question → ℤ → Event
  Entered : Enter → Event

-- The questions with their answers alone.
abbrev pub answered_in : List Event → List Answered
answered_in [] = []
answered_in (Asked at question answer ∷ events) = record { question = question; answer = answer } ∷ answered_in events
answered_in (Entered at ∷ events) = answered_in events

abbrev pub count_of : List Event → ℕ
count_of events = length (answered_in events)

-- The pace after a list of questions with answers.
abbrev pub pace_after : List Answered → Pace → Pace
pace_after [] pace = pace
pace_after (a ∷ list) pace = pace_after list (paced a.question a.answer pace)

-- The script, from this pace, adds these events and comes to this value. Each of its questions is valid, and has the
-- answer that follows it.
pub data Adds {A : Type 0} : Script A → Pace → List Event → A → Type 0 where
  done : {value : A} {pace : Pace} → Adds (Done value) pace [] value
  looked : {look : Pace → Script A} {pace : Pace} {events : List Event} {value : A}
      → Adds (look pace) pace events value
      → Adds (Look look) pace events value
  asked : {at : Place} {question : Question} {answer : ℤ} {follow : ℤ → Script A} {pace : Pace} {events : List Event} {value : A}
      → IsValid question
      → IsAnswer question answer
      → Adds (follow answer) (paced question answer pace) events value
      → Adds (Ask at question follow) pace (Asked at question answer ∷ events) value
  begun : {at : Enter} {script : Script A} {pace : Pace} {events : List Event} {value : A}
      → Adds script pace events value
      → Adds (Begin at script) pace (Entered at ∷ events) value

-- The coder and the chooser after are those before, taken through the calls of these events and no others.
pub data Through {C H : Type 0} (coder : CoderCalls C) (chooser : ChooserCalls H) : List Event → C → H → C → H → Type 0 where
  none : {c : C} {h : H} → Through coder chooser [] c h c h
  called : {at : Place} {question : Question} {answer : ℤ} {events : List Event} {c d e : C} {h k m : H}
      → Call coder chooser at question answer c h d k
      → Through coder chooser events d k e m
      → Through coder chooser (Asked at question answer ∷ events) c h e m
  entered : {at : Enter} {events : List Event} {c d : C} {h k m : H}
      → chooser.Enters h at k
      → Through coder chooser events c k d m
      → Through coder chooser (Entered at ∷ events) c h d m

-- A walk of the script that came to this value: what the script added, and the calls for it.
pub record Walked {C H A : Type 0} (coder : CoderCalls C) (chooser : ChooserCalls H) (script : Script A) (value : A)
    (c : C) (h : H) (d : C) (k : H) : Type 0 where
  pub events : List Event
  pub adds : Adds script (coder.pace c) events value
  pub through : Through coder chooser events c h d k
  pub pace : coder.pace d ≡ pace_after (answered_in events) (coder.pace c)
  pub count : coder.count d ≡ coder.count c + count_of events
