-- How many questions the parts of a script ask at most, and that a list in order is no longer.
use Rattle.std.proofs.Common.{ℕ, zero, suc, ◌+◌, ◌≤◌, List, [], ◌∷◌, length, Bool, true, false, nat_le, if◌then◌else◌, refl, ap, arith}
use Rattle.celt_base.specs.declared.coder.Place.{Place}
use Rattle.celt_base.specs.declared.question.Question.{Question}
use Rattle.celt_base.specs.Paces.{Pace, paced, tell_of}
use Rattle.celt_base.specs.Questions.{Answered}
use Rattle.celt_base.specs.WalkOrders.{AtMost, IsMost, InOrder}
use Rattle.celt_base.specs.WalkScripts.{Script, Done, Look, Ask, Begin, and_then, asks_at, asks_bit, asks_number, bit_within}
use Rattle.celt_base.proofs.WalkOrders.{most_more, most_then, most_answer, most_bit}

pub most_none : {A : Type 0} {n : ℕ} {value : A} → IsMost n (Done value)
most_none = record { is = tt }

pub with_most : {A : Type 0} (n : ℕ) (script : Script A) → AtMost n script → IsMost n script
with_most n script most = record { is = most }

pub then_most : {A B : Type 0} {first : Script A} {next : A → Script B} (m n : ℕ)
    → IsMost m first
    → ((value : A) → IsMost n (next value))
    → IsMost (m + n) (and_then first next)
then_most {first = first} {next = next} m n a b = record { is = most_then first next m n a.is (λ value gives. (b value).is) }

pub more_most : {A : Type 0} {script : Script A} (m n : ℕ) → m ≤ n → IsMost m script → IsMost n script
more_most {script = script} m n le a = record { is = most_more script m n le a.is }

pub look_most : {A : Type 0} {n : ℕ} {from : Pace → Script A} → ((pace : Pace) → IsMost n (from pace)) → IsMost n (Look from)
look_most f = record { is = λ pace. (f pace).is }

pub most_if : {A : Type 0} (n : ℕ) (test : Bool) {first second : Script A}
    → IsMost n first
    → IsMost n second
    → IsMost n (if test then first else second)
most_if n true a b = a
most_if n false a b = b

pub answer_most : (at : Place) (question : Question) → IsMost 1 (asks_at at question)
answer_most at question = record { is = most_answer at question }

pub bit_most : (at : Place) (p : ℕ) → IsMost 1 (asks_bit at p)
bit_most at p = record { is = most_bit at p }

pub number_most : (at : Place) (question : Question) → IsMost 1 (asks_number at question)
unfolding asks_number asks_at
number_most at question = record { is = λ answer is. tt }

pub within_most : (at : Place) (p cost budget : ℕ) → IsMost 1 (bit_within at p cost budget)
unfolding bit_within
within_most at p cost budget = look_most (λ pace. most_if 1 (nat_le (tell_of pace + cost) budget) (bit_most at p) most_none)

-- a list in order is no longer than the script's questions
module _ {A : Type 0} where
  pub list_most : (n : ℕ) (script : Script A) (pace : Pace) (list : List Answered) → AtMost n script → InOrder script pace list → length list ≤ n
  list_most n script pace [] most order = omega arith
  list_most n (Done value) pace (a ∷ list) most order = absurd (order [] a list refl)
  list_most n (Look look) pace (a ∷ list) most order = list_most n (look pace) pace (a ∷ list) (most pace) order
  list_most n (Begin at script) pace (a ∷ list) most order = list_most n script pace (a ∷ list) most order
  list_most zero (Ask at question follow) pace (a ∷ list) most order = absurd most
  list_most (suc n) (Ask at question follow) pace (a ∷ list) most order =
      let is = order [] a list refl in
      let rest = list_most n (follow a.answer) (paced question a.answer pace) list (most a.answer is.1)
      (λ front b more e. order (a ∷ front) b more (ap (λ l. a ∷ l) e)) in
      omega (arith, rest)
