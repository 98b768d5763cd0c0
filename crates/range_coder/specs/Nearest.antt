-- The answer of a question that is nearest to a wanted one, and the part that codes it.
use Rattle.std.specs.Prelude.{◌≡◌, ℕ, ◌≤◌, [], ◌∷◌, ℤ, ◌-ℤ◌, unsigned_abs}
use Rattle.celt_base.specs.declared.question.Question.{Question}
use Rattle.celt_base.specs.Intervals.{Part, InPart}
use Rattle.celt_base.specs.Questions.{IsAnswer, steps}

abbrev pub distance : ℤ → ℤ → ℕ
distance a b = unsigned_abs (a -ℤ b)

-- No other answer of the question is nearer to the wanted one.
pub record IsNearest (question : Question) (want answer : ℤ) : Type 0 where
  pub is_answer : IsAnswer question answer
  pub nearest : (other : ℤ) → IsAnswer question other → distance answer want ≤ distance other want

-- The nearest answer, and the one part that codes it.
pub record IsChoice (question : Question) (want answer : ℤ) (part : Part) : Type 0 where
  pub nearest : IsNearest question want answer
  pub codes : steps question answer ≡ InPart part ∷ []
