-- The nearest answer where the answers follow each other.
use Rattle.std.proofs.Common.{◌≡◌, ℕ, ◌+◌, ◌*◌, ◌^◌, ◌<◌, ◌≤◌, inl, inr, ℤ, pos, negsuc, ◌≤ℤ◌, w64, FitsSigned, to_z, of_z, subst, arith}
use Rattle.std.proofs.lemmas.Bool.{cases_lt}
use Rattle.std.proofs.lemmas.Int.{ints, to_z-of_z}
use Rattle.celt_base.specs.declared.question.Question.{Question}
use Rattle.celt_base.specs.declared.question.Question.TheVariants.{Laplace}
use Rattle.celt_base.specs.Intervals.{Part}
use Rattle.celt_base.specs.Questions.{start, laplace_row, IsAnswer}
use Rattle.celt_base.proofs.Rows.{start_rises}
use Rattle.range_coder.specs.Nearest.{IsNearest, IsChoice}

-- a wanted number that was an i64 of the code
pub wanted : (q : Question) (want a : ℤ) → FitsSigned w64 want → IsNearest q (to_z w64 (of_z w64 want)) a → IsNearest q want a
wanted q want a fits = subst (λ w. IsNearest q w a) (to_z-of_z w64 want fits)

pub choice_wanted : (q : Question) (want a : ℤ) (part : Part) → FitsSigned w64 want → IsChoice q (to_z w64 (of_z w64 want)) a part → IsChoice q want a part
choice_wanted q want a part fits = subst (λ w. IsChoice q w a part) (to_z-of_z w64 want fits)

pub nearest_same : (q : Question) (want : ℤ) → IsAnswer q want → IsNearest q want want
nearest_same q want is = record { is_answer = is; nearest = λ other answers. omega (arith, ints) }

pub nearest_greatest : (q : Question) (want answer : ℤ) → IsAnswer q answer → answer ≤ℤ want → ((other : ℤ) → IsAnswer q other → other ≤ℤ answer)
    → IsNearest q want answer
nearest_greatest q want answer is above greatest =
    record { is_answer = is; nearest = λ other answers. let most = greatest other answers in omega (arith, ints) }

pub nearest_least : (q : Question) (want answer : ℤ) → IsAnswer q answer → want ≤ℤ answer → ((other : ℤ) → IsAnswer q other → answer ≤ℤ other)
    → IsNearest q want answer
nearest_least q want answer is below least =
    record { is_answer = is; nearest = λ other answers. let most = least other answers in omega (arith, ints) }

-- the signed numbers of a Laplace question, cut at the last one
pub minus_nearest : (fs decay m k : ℕ) → start (laplace_row fs decay) (2 * k + 1) < 2 ^ 15 → k ≤ m
    → (k < m → 2 ^ 15 ≤ start (laplace_row fs decay) (2 * k + 3)) → IsNearest (Laplace fs decay) (negsuc m) (negsuc k)
minus_nearest fs decay m k is within last =
    elim (cases_lt k m) [
      | inl less ↦ nearest_least (Laplace fs decay) (negsuc m) (negsuc k) is (omega (arith, ints)) (least (last less))
      | inr same ↦
          let e : k ≡ m = omega arith in
          subst (λ n. IsNearest (Laplace fs decay) (negsuc n) (negsuc k)) e (nearest_same (Laplace fs decay) (negsuc k) is)
    ]
  where
    least : 2 ^ 15 ≤ start (laplace_row fs decay) (2 * k + 3) → (other : ℤ) → IsAnswer (Laplace fs decay) other → negsuc k ≤ℤ other
    least past (pos n) answers = omega (arith, ints)
    least past (negsuc n) answers =
        elim (cases_lt k n) [
          | inl more ↦ let rises = start_rises (laplace_row fs decay) (2 * k + 3) (2 * n + 1) (omega arith) in absurd (omega arith)
          | inr few ↦ omega (arith, ints)
        ]

pub plus_nearest : (fs decay m k : ℕ) → start (laplace_row fs decay) (2 * k) < 2 ^ 15 → k ≤ m
    → (k < m → 2 ^ 15 ≤ start (laplace_row fs decay) (2 * k + 2)) → IsNearest (Laplace fs decay) (pos m) (pos k)
plus_nearest fs decay m k is within last =
    elim (cases_lt k m) [
      | inl less ↦ nearest_greatest (Laplace fs decay) (pos m) (pos k) is (omega (arith, ints)) (greatest (last less))
      | inr same ↦
          let e : k ≡ m = omega arith in
          subst (λ n. IsNearest (Laplace fs decay) (pos n) (pos k)) e (nearest_same (Laplace fs decay) (pos k) is)
    ]
  where
    greatest : 2 ^ 15 ≤ start (laplace_row fs decay) (2 * k + 2) → (other : ℤ) → IsAnswer (Laplace fs decay) other → other ≤ℤ pos k
    greatest past (negsuc n) answers = omega (arith, ints)
    greatest past (pos n) answers =
        elim (cases_lt k n) [
          | inl more ↦ let rises = start_rises (laplace_row fs decay) (2 * k + 2) (2 * n) (omega arith) in absurd (omega arith)
          | inr few ↦ omega (arith, ints)
        ]
