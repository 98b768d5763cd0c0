-- The computed reading is the one list in order whose answers are the frame's.
use Rattle.std.proofs.Common.{◌≡◌, ℕ, List, [], ◌∷◌, ℤ, refl, sym, ap, ◌∙◌, subst}
use Rattle.std.specs.Prelude.{Some, ⊤}
use Rattle.celt_base.specs.declared.coder.Place.{Place}
use Rattle.celt_base.specs.declared.question.Question.{Question}
use Rattle.celt_base.specs.Intervals.{Interval}
use Rattle.celt_base.specs.Paces.{Pace, paced}
use Rattle.celt_base.specs.Questions.{Answered, after_answer}
use Rattle.celt_base.specs.WalkOrders.{Next, AsksAt, Ends, next, outcome, InOrder}
use Rattle.celt_base.specs.WalkScripts.{Script, Done, Look, Ask, Begin}
use Rattle.range_coder.specs.Reading.{Answers, AnswersFrom}
use Rattle.frame_symbols.specs.Computing.{answer_of, answered, read_by}
use Rattle.frame_symbols.proofs.ComputedAnswers.{answer_is}

same_answer : (a : Answered) (q : Question) (b : ℤ) → a.question ≡ q → b ≡ a.answer → record { question = q; answer = b } ≡ a
same_answer a q b e f = ap (λ x. record { question = x; answer = b }) (sym e) ∙ ap (λ x. record { question = a.question; answer = x }) f

is_end : Next → Type 0
is_end (AsksAt at question) = ⊥
is_end Ends = ⊤

not_end : (at : Place) (question : Question) → AsksAt at question ≡ Ends → ⊥
unfolding is_end
not_end at question e = subst is_end (sym e) tt

-- What a list comes to that ends a script in order, each answer the frame's.
pub record IsReadBy {A : Type 0} (frame : List ℕ) (script : Script A) (pace : Pace) (i : Interval) (list : List Answered) : Type 0 where
  pub list_is : (read_by frame script pace i).list ≡ list
  pub value_is : outcome script pace list ≡ Some (read_by frame script pace i).value

pub read_is : {A : Type 0} (frame : List ℕ) (script : Script A) (pace : Pace) (i : Interval) (list : List Answered)
    → InOrder script pace list → next script pace list ≡ Ends → AnswersFrom frame i list → IsReadBy frame script pace i list
read_is frame (Done value) pace i [] order ends answers = record { list_is = refl; value_is = refl }
read_is frame (Done value) pace i (a ∷ list) order ends answers = absurd (order [] a list refl)
read_is frame (Look look) pace i list order ends answers =
    let r = read_is frame (look pace) pace i list order ends answers in
    record { list_is = r.list_is; value_is = r.value_is }
read_is frame (Begin at script) pace i list order ends answers =
    let r = read_is frame script pace i list order ends answers in
    record { list_is = r.list_is; value_is = r.value_is }
read_is frame (Ask at question follow) pace i [] order ends answers = absurd (not_end at question ends)
read_is frame (Ask at question follow) pace i (a ∷ list) order ends answers =
    let f = order [] a list refl in
    let b : ℤ = answer_of frame i question in
    let e : b ≡ a.answer = answer_is frame i question a.answer (subst (λ q. Answers frame i q a.answer) f.0 answers.0) in
    let back : a.answer ≡ b = sym e in
    let same : answered frame i question ≡ a = same_answer a question b f.0 e in
    let later : InOrder (follow a.answer) (paced question a.answer pace) list = λ front x rest is. order (a ∷ front) x rest (ap (λ l. a ∷ l) is) in
    let later2 : InOrder (follow b) (paced question b pace) list = subst (λ z. InOrder (follow z) (paced question z pace) list) back later in
    let ends2 : next (follow b) (paced question b pace) list ≡ Ends = subst (λ z. next (follow z) (paced question z pace) list ≡ Ends) back ends in
    let answers2 : AnswersFrom frame (after_answer i (answered frame i question)) list = subst (λ x. AnswersFrom frame (after_answer i x) list) (sym same) answers.1 in
    let r = read_is frame (follow b) (paced question b pace) (after_answer i (answered frame i question)) list later2 ends2 answers2 in
    record {
      list_is = ap (λ l. answered frame i question ∷ l) r.list_is ∙ ap (λ x. x ∷ list) same;
      value_is = subst (λ z. outcome (follow z) (paced question z pace) list ≡ Some (read_by frame (follow b) (paced question b pace) (after_answer i (answered frame i question))).value) e r.value_is;
    }
