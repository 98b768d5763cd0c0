-- The order of a script's questions, read off its tree: which question follows a list of answers, where the questions
-- end, what they come to, and how many there are at most.
use Rattle.std.specs.Prelude.{◌≡◌, ℕ, zero, suc, ℤ, List, [], ◌∷◌, ◌++◌, Option, None, Some, ⊤}
use Rattle.celt_base.specs.declared.coder.Place.{Place}
use Rattle.celt_base.specs.declared.question.Question.{Question}
use Rattle.celt_base.specs.Paces.{Pace, paced}
use Rattle.celt_base.specs.Questions.{Answered, IsAnswer}
use Rattle.celt_base.specs.WalkScripts.{Script, Done, Look, Ask, Begin}

-- The place and the question that follow, or the end.
pub data Next : Type 0 where
  AsksAt : Place → Question → Next
  Ends : Next

-- What follows a list of questions with answers, the script beginning at this pace.
abbrev pub next : {A : Type 0} → Script A → Pace → List Answered → Next
next (Done value) pace list = Ends
next (Look look) pace list = next (look pace) pace list
next (Begin at script) pace list = next script pace list
next (Ask at question follow) pace [] = AsksAt at question
next (Ask at question follow) pace (a ∷ list) = next (follow a.answer) (paced question a.answer pace) list

-- The value that the script comes to after a list of questions with answers; None where it does not end just there.
abbrev pub outcome : {A : Type 0} → Script A → Pace → List Answered → Option A
outcome (Done value) pace [] = Some value
outcome (Done value) pace (a ∷ list) = None
outcome (Look look) pace list = outcome (look pace) pace list
outcome (Begin at script) pace list = outcome script pace list
outcome (Ask at question follow) pace [] = None
outcome (Ask at question follow) pace (a ∷ list) = outcome (follow a.answer) (paced question a.answer pace) list

-- The question is the one that follows, and the answer is one of its answers.
abbrev pub Follows : Next → Answered → Type 0
Follows (AsksAt at question) a = (a.question ≡ question) × IsAnswer question a.answer
Follows Ends a = ⊥

-- Each question of the list is the one that follows those before it, and each answer is one of its question's.
abbrev pub InOrder : {A : Type 0} → Script A → Pace → List Answered → Type 0
InOrder script pace list =
    (front : List Answered) (a : Answered) (rest : List Answered) → list ≡ front ++ a ∷ rest → Follows (next script pace front) a

-- However it is answered, at whatever pace, the script asks at most so many questions.
abbrev pub AtMost : {A : Type 0} → ℕ → Script A → Type 0
AtMost n (Done value) = ⊤
AtMost n (Look look) = (pace : Pace) → AtMost n (look pace)
AtMost n (Begin at script) = AtMost n script
AtMost zero (Ask at question follow) = ⊥
AtMost (suc n) (Ask at question follow) = (answer : ℤ) → IsAnswer question answer → AtMost n (follow answer)

-- The same as a record, from which the script is found.
pub record IsMost {A : Type 0} (n : ℕ) (script : Script A) : Type 0 where
  pub is : AtMost n script

-- Some answers, at some pace, make the script come to this value.
abbrev pub MayGive : {A : Type 0} → Script A → A → Type 0
MayGive (Done value) last = last ≡ value
MayGive (Look look) last = (pace : Pace) × MayGive (look pace) last
MayGive (Begin at script) last = MayGive script last
MayGive (Ask at question follow) last = (answer : ℤ) × IsAnswer question answer × MayGive (follow answer) last

-- Each answer of the list is one that `decides` lets stand after what was before it, whose state is `before` and goes on
-- by `after`.
abbrev pub Decided : {S : Type 0} → (S → Question → ℤ → Type 0) → (S → Answered → S) → S → List Answered → Type 0
Decided decides after before [] = ⊤
Decided decides after before (a ∷ list) = decides before a.question a.answer × Decided decides after (after before a) list
