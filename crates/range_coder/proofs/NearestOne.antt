-- A question has one nearest answer: the numbers between two of its answers are answers.
use Rattle.std.proofs.Common.{◌≡◌, ◌⊎◌, ℕ, ◌+◌, ◌*◌, ◌^◌, inl, inr, ℤ, pos, negsuc, ◌≤ℤ◌, arith}
use Rattle.std.proofs.lemmas.Bool.{cases_lt}
use Rattle.std.proofs.lemmas.Int.{ints}
use Rattle.celt_base.specs.declared.question.Question.{Question}
use Rattle.celt_base.specs.declared.question.Question.TheVariants.{Bit, Table, Uniform, Laplace, Step, Triangle, Raw}
use Rattle.celt_base.specs.Questions.{laplace_row, answers_of, IsBelow, IsAnswer}
use Rattle.celt_base.proofs.Rows.{start_rises}
use Rattle.range_coder.specs.Nearest.{IsNearest}

between_numbers : (count : ℕ) (a w b : ℤ) → IsBelow count a → IsBelow count b → a ≤ℤ w → w ≤ℤ b → IsBelow count w
between_numbers count (negsuc a) w b first second above below = absurd first
between_numbers count (pos a) (negsuc w) b first second above below = absurd (omega (arith, ints))
between_numbers count (pos a) (pos w) (negsuc b) first second above below = absurd second
between_numbers count (pos a) (pos w) (pos b) first second above below = omega (arith, ints)

between_signed : (fs decay : ℕ) (a w b : ℤ) → IsAnswer (Laplace fs decay) a → IsAnswer (Laplace fs decay) b → a ≤ℤ w → w ≤ℤ b
    → IsAnswer (Laplace fs decay) w
between_signed fs decay a (pos w) (negsuc b) first second above below = absurd (omega (arith, ints))
between_signed fs decay a (pos w) (pos b) first second above below =
    let rises = start_rises (laplace_row fs decay) (2 * w) (2 * b) (omega (arith, ints)) in omega arith
between_signed fs decay (pos a) (negsuc w) b first second above below = absurd (omega (arith, ints))
between_signed fs decay (negsuc a) (negsuc w) b first second above below =
    let rises = start_rises (laplace_row fs decay) (2 * w + 1) (2 * a + 1) (omega (arith, ints)) in omega arith

between : (q : Question) (a w b : ℤ) → IsAnswer q a → IsAnswer q b → a ≤ℤ w → w ≤ℤ b → IsAnswer q w
between (Bit p) = between_numbers 2
between (Table table) = between_numbers (answers_of table)
between (Uniform limit) = between_numbers limit
between (Laplace fs decay) = between_signed fs decay
between (Step most) = between_numbers (most + 1)
between (Triangle most) = between_numbers (most + 1)
between (Raw count) = between_numbers (2 ^ count)

in_order : (a b : ℤ) → (a ≤ℤ b) ⊎ (b ≤ℤ a)
in_order (pos a) (pos b) =
    elim (cases_lt a b) [
      | inl less ↦ inl (omega (arith, ints))
      | inr more ↦ inr (omega (arith, ints))
    ]
in_order (pos a) (negsuc b) = inr (omega (arith, ints))
in_order (negsuc a) (pos b) = inl (omega (arith, ints))
in_order (negsuc a) (negsuc b) =
    elim (cases_lt a b) [
      | inl less ↦ inr (omega (arith, ints))
      | inr more ↦ inl (omega (arith, ints))
    ]

-- what is wanted lies on one side of both, or is itself an answer
at_want : (q : Question) (want a b : ℤ) → IsNearest q want a → IsNearest q want b → IsAnswer q want → a ≡ b
at_want q want a b first second is =
    let one = first.nearest want is in
    let two = second.nearest want is in
    omega (arith, ints)

pub nearest_one : (q : Question) (want a b : ℤ) → IsNearest q want a → IsNearest q want b → a ≡ b
nearest_one q want a b first second =
    let one = first.nearest b second.is_answer in
    let two = second.nearest a first.is_answer in
    elim (in_order a want) [
      | inl low ↦ elim (in_order want b) [
        | inl high ↦ at_want q want a b first second (between q a want b first.is_answer second.is_answer low high)
        | inr also ↦ omega (arith, ints)
      ]
      | inr high ↦ elim (in_order b want) [
        | inl low ↦ at_want q want a b first second (between q b want a second.is_answer first.is_answer low high)
        | inr also ↦ omega (arith, ints)
      ]
    ]
