-- What a coder and a chooser do at each of their calls, and the calls that a question makes.
use Rattle.std.specs.Prelude.{◌≡◌, ◌≢◌, ℕ, zero, suc, ◌+◌, ◌*◌, ◌^◌, ◌<◌, ◌≤◌, ℤ, pos, negsuc, ◌-ℤ◌, unsigned_abs}
use Rattle.celt_base.specs.declared.coder.Enter.{Enter}
use Rattle.celt_base.specs.declared.coder.Mute.{Mute}
use Rattle.celt_base.specs.declared.coder.Place.{Place}
use Rattle.celt_base.specs.declared.coder.Place.TheVariants.{Coarse}
use Rattle.celt_base.specs.declared.question.Question.{Question}
use Rattle.celt_base.specs.declared.question.Question.TheVariants.{Bit, Table}
use Rattle.celt_base.specs.Paces.{Pace}
use Rattle.celt_base.specs.Questions.{IsAnswer}

-- A coder's pace, the number of questions that it was asked, and what a call of `ask` does: the coder before, the
-- question, the wanted answer, the answer, the coder after.
pub record CoderCalls (C : Type 0) : Type 1 where
  pub pace : C → Pace
  pub count : C → ℕ
  pub Asks : C → Question → ℤ → ℤ → C → Type 0

-- What each call of a chooser does: the chooser before, the arguments, what is wanted, the chooser after.
pub record ChooserCalls (H : Type 0) : Type 1 where
  pub Enters : H → Enter → H → Type 0
  pub Wants : H → Place → Question → ℤ → H → Type 0
  pub Told : H → Place → ℤ → H → Type 0

-- The range of a pace after so many questions.
pub record IsPace (pace : Pace) (count : ℕ) : Type 0 where
  pub wide : 2 ^ 23 < pace.width
  pub narrow : pace.width ≤ 2 ^ 31
  pub begun : 33 ≤ pace.bits
  pub most : pace.bits ≤ 33 + 40 * count

-- One that is mute wants 0 everywhere and stays as it was.
pub record IsSilent (wanted : ℤ) (before now : Mute) : Type 0 where
  pub zero : wanted ≡ pos 0
  pub same : now ≡ before

abbrev pub mute_calls : ChooserCalls Mute
mute_calls = record {
  Enters = λ before at now. now ≡ before;
  Wants = λ before at question wanted now. IsSilent wanted before now;
  Told = λ before at answer now. now ≡ before;
}

-- The value of a small coarse energy's answer: 0, 1 and 2 stand for 0, -1 and 1 (RFC 6716, section 4.3.2.1). The answer
-- of a wanted value is the one whose value is nearest.
unfoldable pub small_value : ℤ → ℤ
small_value (pos (suc zero)) = negsuc 0
small_value (pos (suc (suc zero))) = pos 1
small_value answer = pos 0

unfoldable pub small_answer : ℤ → ℤ
small_answer (pos zero) = pos 0
small_answer (pos (suc n)) = pos 2
small_answer (negsuc n) = pos 1

-- The value of a bit is 0 or -1.
unfoldable pub bit_value : ℤ → ℤ
bit_value (pos (suc zero)) = negsuc 0
bit_value answer = pos 0

unfoldable pub bit_answer : ℤ → ℤ
bit_answer (pos n) = pos 0
bit_answer (negsuc n) = pos 1

unfoldable pub coarse_value : Question → ℤ → ℤ
coarse_value (Table table) answer = small_value answer
coarse_value (Bit p) answer = bit_value answer
coarse_value question answer = answer

unfoldable pub coarse_answer : Question → ℤ → ℤ
coarse_answer (Table table) wanted = small_answer wanted
coarse_answer (Bit p) wanted = bit_answer wanted
coarse_answer question wanted = wanted

abbrev pub distance : ℤ → ℤ → ℕ
distance a b = unsigned_abs (a -ℤ b)

-- The answer's value is nearer to the wanted one than that of any other answer: no two values are as near.
pub record IsNearestValue (question : Question) (wanted answer : ℤ) : Type 0 where
  pub is_answer : IsAnswer question answer
  pub nearer : (other : ℤ) → IsAnswer question other → other ≢ answer
      → distance (coarse_value question answer) wanted < distance (coarse_value question other) wanted

-- At a coarse energy a chooser speaks in values, at every other place in answers. This is what it is told of an answer,
-- and the answer that it means.
unfoldable pub heard : Place → Question → ℤ → ℤ
heard (Coarse band channel) question answer = coarse_value question answer
heard at question answer = answer

unfoldable pub meant : Place → Question → ℤ → ℤ
meant (Coarse band channel) question wanted = coarse_answer question wanted
meant at question wanted = wanted

-- The value of an answer that the question has.
pub record IsHeard (at : Place) (question : Question) (value : ℤ) : Type 0 where
  pub answer : ℤ
  pub is_answer : IsAnswer question answer
  pub is_value : value ≡ heard at question answer

-- The calls of a question with its answer, in their order: `want`, `ask`, `told`.
pub record Call {C H : Type 0} (coder : CoderCalls C) (chooser : ChooserCalls H) (at : Place) (question : Question) (answer : ℤ)
    (c : C) (h : H) (d : C) (k : H) : Type 0 where
  pub wanted : ℤ
  pub between : H
  pub wants : chooser.Wants h at question wanted between
  pub asks : coder.Asks c question (meant at question wanted) answer d
  pub told : chooser.Told between at (heard at question answer) k
