-- The walks of a number, and of a bit that is asked where there is room for it.
use Rattle.std.proofs.Common.{◌≡◌, ℕ, ◌+◌, ◌^◌, ◌<◌, ◌≤◌, Bool, true, false, ℤ, nat_le, arith}
use Rattle.std.specs.Prelude.{pos, negsuc, unsigned_abs}
use Rattle.std.proofs.lemmas.Bool.Decides.{nat_tests}
use Rattle.celt_base.specs.declared.coder.Place.{Place}
use Rattle.celt_base.specs.declared.question.Question.{Question}
use Rattle.celt_base.specs.declared.question.Question.TheVariants.{Bit, Table, Uniform, Laplace, Step, Triangle, Raw}
use Rattle.celt_base.specs.Paces.{tell_of}
use Rattle.celt_base.specs.Questions.{IsAnswer, IsBelow, IsCounted, limit_of}
use Rattle.celt_base.specs.WalkCalls.{CoderCalls, ChooserCalls}
use Rattle.celt_base.specs.WalkScripts.{Done, asks_at, asks_bit, asks_number, bit_within}
use Rattle.celt_base.specs.Walks.{Walked}
use Rattle.celt_base.proofs.WalkSteps.{start, look, walk, walk_last, end, when_true, when_false, no_walk}

-- an answer from 0 on is below their number
below_count : (n : ℕ) (answer : ℤ) → IsBelow n answer → unsigned_abs answer < n
below_count n (pos m) below = below
below_count n (negsuc m) below = absurd below

pub below_limit : (question : Question) (answer : ℤ) → IsCounted question → IsAnswer question answer → unsigned_abs answer < limit_of question
below_limit (Bit p) answer counted is = below_count 2 answer is
below_limit (Table table) answer counted is = below_count _ answer is
below_limit (Uniform limit) answer counted is = below_count limit answer is
below_limit (Laplace fs decay) answer counted is = absurd counted
below_limit (Step most) answer counted is = below_count (most + 1) answer is
below_limit (Triangle most) answer counted is = below_count (most + 1) answer is
below_limit (Raw count) answer counted is = below_count (2 ^ count) answer is

-- a walk of the question is one of the script
module _ {C H : Type 0} {coder : CoderCalls C} {chooser : ChooserCalls H} where
  pub number_asked : {answer : ℤ} {c d : C} {h k : H} (at : Place) (question : Question)
      → Walked coder chooser (asks_at at question) answer c h d k
      → Walked coder chooser (asks_number at question) (unsigned_abs answer) c h d k
  unfolding asks_number
  number_asked at question w = end (walk (λ answer. Done (unsigned_abs answer)) start w)

  pub bit_unasked : {c : C} {h : H} (at : Place) (p cost budget : ℕ)
      → budget < tell_of (coder.pace c) + cost
      → Walked coder chooser (bit_within at p cost budget) false c h c h
  unfolding bit_within
  bit_unasked {c = c} at p cost budget less =
      let t : nat_le (tell_of (coder.pace c) + cost) budget ≡ false = grind (arith, nat_tests, less) in
      walk_last (look start) (when_false _ _ _ t no_walk)

  pub bit_asked : {value : Bool} {c d : C} {h k : H} (at : Place) (p cost budget : ℕ)
      → tell_of (coder.pace c) + cost ≤ budget
      → Walked coder chooser (asks_bit at p) value c h d k
      → Walked coder chooser (bit_within at p cost budget) value c h d k
  unfolding bit_within
  bit_asked {c = c} at p cost budget enough w =
      let t : nat_le (tell_of (coder.pace c) + cost) budget ≡ true = grind (arith, nat_tests, enough) in
      walk_last (look start) (when_true _ _ _ t w)
