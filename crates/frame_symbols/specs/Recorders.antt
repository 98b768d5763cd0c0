-- What a recorder's call does: it asks the coder below, and its list is longer by the question with its answer.
use Rattle.std.specs.Prelude.{◌≡◌, ◌++◌, ℕ, List, [], ◌∷◌, map, ℤ, Option}
use Rattle.celt_base.specs.declared.kind.Kind.{Kind}
use Rattle.celt_base.specs.declared.question.Question.{Question}
use Rattle.celt_base.specs.Questions.{Answered}
use Rattle.celt_base.specs.WalkCalls.{CoderCalls, ChooserCalls}
use Rattle.celt_base.specs.Walks.{Walked, answered_in}
use Rattle.frame_symbols.specs.declared.fields.Fields.{Fields}
use Rattle.frame_symbols.specs.declared.recorder.Answer.{Answer}
use Rattle.frame_symbols.specs.Frames.{Sound, frame_script}
use Rattle.frame_symbols.specs.Held.{HoldsFrame}

abbrev pub answered_of : List Answer → List Answered
answered_of list = map (λ a. record { question = a.question; answer = a.value }) list

-- The coder below, the list, and the names of the places that were lent for both; before and after.
pub record Recorded {C M N : Type 0} (coder : CoderCalls C) (question : Question) (wanted answer : ℤ)
    (c : C) (list : List Answer) (lent : M) (name : N) (d : C) (more : List Answer) (then : M) (next : N) : Type 0 where
  pub asks : coder.Asks c question wanted answer d
  pub longer : more ≡ list ++ record { question = question; value = answer } ∷ []
  pub same_coder : then ≡ lent
  pub same_list : next ≡ name

-- A recorder as a coder: the pace and the number of questions are those of the coder below.
abbrev pub recorder_calls : {C R M N : Type 0} → CoderCalls C → (R → C) → (R → List Answer) → (R → M) → (R → N) → CoderCalls R
recorder_calls coder inner list lent name = record {
  pace = λ r. coder.pace (inner r);
  count = λ r. coder.count (inner r);
  Asks = λ r question wanted answer s. Recorded coder question wanted answer (inner r) (list r) (lent r) (name r) (inner s) (list s) (lent s) (name s);
}

-- A walk of a whole frame that left what it asked and was answered in the list, and what came of it in the fields.
pub record WalkedList {C H : Type 0} (coder : CoderCalls C) (chooser : ChooserCalls H) (kind : Kind) (len : ℕ) (list : List Answer) (f : Fields)
    (c : C) (h : H) (d : C) (k : H) : Type 0 where
  pub value : Option Sound
  pub walked : Walked coder chooser (frame_script kind len) value c h d k
  pub list_is : answered_of list ≡ answered_in walked.events
  pub holds : HoldsFrame kind f value
