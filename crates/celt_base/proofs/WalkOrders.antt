-- What a script adds is in its order and decides its value; where what stands before decides each answer, there is one
-- list in order; how many questions joined scripts ask at most.
use Rattle.std.proofs.Common.{◌≡◌, ℕ, zero, suc, ◌+◌, ◌*◌, ◌<◌, ◌≤◌, ℤ, List, [], ◌∷◌, ◌++◌, Option, Some, None, refl, sym, ◌∙◌, ap, subst, arith}
use Rattle.std.specs.Prelude.{⊤}
use Rattle.celt_base.specs.declared.coder.Place.{Place}
use Rattle.celt_base.specs.declared.question.Question.{Question}
use Rattle.celt_base.specs.Paces.{Pace, paced}
use Rattle.celt_base.specs.Questions.{Answered, IsAnswer}
use Rattle.celt_base.specs.WalkScripts.{Script, Done, Look, Ask, Begin, and_then, each, row_of, table, asks_at, asks_value_at, asks_bit}
use Rattle.celt_base.specs.Walks.{Event, answered_in, count_of, Adds, done, looked, asked, begun}
use Rattle.celt_base.specs.WalkOrders.{Next, AsksAt, Ends, next, outcome, Follows, InOrder, AtMost, MayGive, Decided}

-- behind what a script adds nothing follows, and the value is its outcome
pub next_after : {A : Type 0} {script : Script A} {pace : Pace} {events : List Event} {value : A}
    → Adds script pace events value → next script pace (answered_in events) ≡ Ends
next_after done = refl
next_after (looked x) = next_after x
next_after (asked valid answer x) = next_after x
next_after (begun x) = next_after x

pub outcome_after : {A : Type 0} {script : Script A} {pace : Pace} {events : List Event} {value : A}
    → Adds script pace events value → outcome script pace (answered_in events) ≡ Some value
outcome_after done = refl
outcome_after (looked x) = outcome_after x
outcome_after (asked valid answer x) = outcome_after x
outcome_after (begun x) = outcome_after x

head_or : Answered → List Answered → Answered
head_or a [] = a
head_or a (b ∷ list) = b

tail_of : List Answered → List Answered
tail_of [] = []
tail_of (b ∷ list) = list

is_empty : List Answered → Type 0
is_empty [] = ⊤
is_empty (a ∷ list) = ⊥

no_front : (front : List Answered) (a : Answered) (rest : List Answered) → [] ≡ front ++ a ∷ rest → ⊥
unfolding is_empty
no_front [] a rest e = subst is_empty e tt
no_front (b ∷ front) a rest e = subst is_empty e tt

module _ {A : Type 0} where
  -- one answer, and a list in order behind it
  asked_in_order : (at : Place) (question : Question) (answer : ℤ) (follow : ℤ → Script A) (pace : Pace) (list : List Answered)
      → IsAnswer question answer
      → InOrder (follow answer) (paced question answer pace) list
      → (front : List Answered) (b : Answered) (rest : List Answered)
      → record { question = question; answer = answer } ∷ list ≡ front ++ b ∷ rest
      → Follows (next (Ask at question follow) pace front) b
  unfolding head_or tail_of
  asked_in_order at question answer follow pace list is_answer behind [] b rest e =
      let a : Answered = record { question = question; answer = answer } in
      let same : a ≡ b = ap (head_or a) e in
      subst (λ c. (c.question ≡ question) × IsAnswer question c.answer) same (refl, is_answer)
  asked_in_order at question answer follow pace list is_answer behind (c ∷ front) b rest e =
      let a : Answered = record { question = question; answer = answer } in
      let same : a ≡ c = ap (head_or a) e in
      let later : list ≡ front ++ b ∷ rest = ap tail_of e in
      subst (λ d. Follows (next (follow d.answer) (paced question d.answer pace) front) b) same (behind front b rest later)

-- what a script adds is in its order
pub in_order : {A : Type 0} {script : Script A} {pace : Pace} {events : List Event} {value : A}
    → Adds script pace events value → InOrder script pace (answered_in events)
in_order done = λ front b rest e. absurd (no_front front b rest e)
in_order (looked x) = in_order x
in_order (asked {at = at} {question = question} {answer = answer} {follow = follow} {pace = pace} {events = events} valid is_answer x) =
    asked_in_order at question answer follow pace (answered_in events) is_answer (in_order x)
in_order (begun x) = in_order x

some_same : {A : Type 0} {a b : A} → Some a ≡ Some b → a ≡ b
some_same {A} {a} {b} e =
    let value : Option A → A = λ o. elim o [ Some x ↦ x | None ↦ a ] in ap value e

-- the answers decide the value
pub one_value_of : {A : Type 0} {script : Script A} {pace : Pace} {events more : List Event} {value last : A}
    → Adds script pace events value
    → Adds script pace more last
    → answered_in events ≡ answered_in more
    → value ≡ last
one_value_of {script = script} {pace = pace} x y e =
    some_same (sym (outcome_after x) ∙ ap (outcome script pace) e ∙ outcome_after y)

is_end : Next → Type 0
is_end (AsksAt at question) = ⊥
is_end Ends = ⊤

not_end : (at : Place) (question : Question) → AsksAt at question ≡ Ends → ⊥
unfolding is_end
not_end at question e = subst is_end (sym e) tt

-- where what stands before decides each answer, a list that is in order up to the end is the only one
module _ {S : Type 0} (decides : S → Question → ℤ → Type 0) (after : S → Answered → S)
    (one : (state : S) (question : Question) (x y : ℤ) → decides state question x → decides state question y → x ≡ y) where
  same_answered : (at : Place) (question : Question) (state : S) (a b : Answered)
      → Follows (AsksAt at question) a
      → Follows (AsksAt at question) b
      → decides state a.question a.answer
      → decides state b.question b.answer
      → a ≡ b
  same_answered at question state a b fa fb da db =
      let same : a.question ≡ b.question = fa.0 ∙ sym fb.0 in
      let answers : a.answer ≡ b.answer = one state b.question a.answer b.answer (subst (λ q. decides state q a.answer) same da) db in
      ap (λ q. let c : Answered = record { question = q; answer = a.answer } in c) same
      ∙ ap (λ z. let c : Answered = record { question = b.question; answer = z } in c) answers

  pub one_list : {A : Type 0} (script : Script A) (pace : Pace) (state : S) (xs ys : List Answered)
      → InOrder script pace xs
      → next script pace xs ≡ Ends
      → Decided decides after state xs
      → InOrder script pace ys
      → next script pace ys ≡ Ends
      → Decided decides after state ys
      → xs ≡ ys
  one_list (Done value) pace state [] [] ix ex dx iy ey dy = refl
  one_list (Done value) pace state [] (b ∷ ys) ix ex dx iy ey dy = absurd (iy [] b ys refl)
  one_list (Done value) pace state (a ∷ xs) ys ix ex dx iy ey dy = absurd (ix [] a xs refl)
  one_list (Look look) pace state xs ys ix ex dx iy ey dy = one_list (look pace) pace state xs ys ix ex dx iy ey dy
  one_list (Begin at script) pace state xs ys ix ex dx iy ey dy = one_list script pace state xs ys ix ex dx iy ey dy
  one_list (Ask at question follow) pace state [] ys ix ex dx iy ey dy = absurd (not_end at question ex)
  one_list (Ask at question follow) pace state (a ∷ xs) [] ix ex dx iy ey dy = absurd (not_end at question ey)
  one_list (Ask at question follow) pace state (a ∷ xs) (b ∷ ys) ix ex dx iy ey dy =
      let same : a ≡ b = same_answered at question state a b (ix [] a xs refl) (iy [] b ys refl) dx.0 dy.0 in
      subst
      (λ c. InOrder (follow c.answer) (paced question c.answer pace) ys
      → next (follow c.answer) (paced question c.answer pace) ys ≡ Ends
      → Decided decides after (after state c) ys
      → a ∷ xs ≡ c ∷ ys)
      same
      (λ i e d. ap (λ list. a ∷ list)
      (one_list (follow a.answer) (paced question a.answer pace) (after state a) xs ys
      (λ front c rest e. ix (a ∷ front) c rest (ap (λ list. a ∷ list) e)) ex dx.1 i e d))
      (λ front c rest e. iy (b ∷ front) c rest (ap (λ list. b ∷ list) e))
      ey
      dy.1

-- the greatest number of questions
pub at_most : {A : Type 0} {script : Script A} {pace : Pace} {events : List Event} {value : A} (n : ℕ)
    → AtMost n script
    → Adds script pace events value
    → count_of events ≤ n
at_most n most done = omega arith
at_most n most (looked {pace = pace} x) = at_most n (most pace) x
at_most n most (begun x) = at_most n most x
at_most zero most (asked valid is_answer x) = absurd most
at_most (suc n) most (asked {answer = answer} valid is_answer x) = let e = at_most n (most answer is_answer) x in omega arith

-- what a script adds it may give
pub may_give : {A : Type 0} {script : Script A} {pace : Pace} {events : List Event} {value : A}
    → Adds script pace events value → MayGive script value
may_give done = refl
may_give (looked {pace = pace} x) = (pace, may_give x)
may_give (begun x) = may_give x
may_give (asked {answer = answer} valid is_answer x) = (answer, is_answer, may_give x)

-- the value of the first of two joined scripts
pub record Gave {A B : Type 0} (script : Script A) (follow : A → Script B) (last : B) : Type 0 where
  pub value : A
  pub first : MayGive script value
  pub second : MayGive (follow value) last

pub gave : {A B : Type 0} (script : Script A) (follow : A → Script B) (last : B) → MayGive (and_then script follow) last → Gave script follow last
gave (Done value) follow last m = record { value = value; first = refl; second = m }
gave (Look look) follow last m = let g = gave (look m.0) follow last m.1 in record { value = g.value; first = (m.0, g.first); second = g.second }
gave (Begin at script) follow last m = let g = gave script follow last m in record { value = g.value; first = g.first; second = g.second }
gave (Ask at question next) follow last m =
    let g = gave (next m.0) follow last m.2 in record { value = g.value; first = (m.0, m.1, g.first); second = g.second }

pub most_more : {A : Type 0} (script : Script A) (m n : ℕ) → m ≤ n → AtMost m script → AtMost n script
most_more (Done value) m n le most = tt
most_more (Look look) m n le most = λ pace. most_more (look pace) m n le (most pace)
most_more (Begin at script) m n le most = most_more script m n le most
most_more (Ask at question follow) zero n le most = absurd most
most_more (Ask at question follow) (suc m) zero le most = absurd (omega arith)
most_more (Ask at question follow) (suc m) (suc n) le most = λ answer is_answer. most_more (follow answer) m n (omega arith) (most answer is_answer)

pub most_then : {A B : Type 0} (script : Script A) (follow : A → Script B) (m n : ℕ)
    → AtMost m script
    → ((value : A) → MayGive script value → AtMost n (follow value))
    → AtMost (m + n) (and_then script follow)
most_then (Done value) follow m n most later = most_more (follow value) n (m + n) (omega arith) (later value refl)
most_then (Look look) follow m n most later = λ pace. most_then (look pace) follow m n (most pace) (λ value gives. later value (pace, gives))
most_then (Begin at script) follow m n most later = most_then script follow m n most later
most_then (Ask at question answers) follow zero n most later = absurd most
most_then (Ask at question answers) follow (suc m) n most later =
    let e : suc (m + n) ≡ suc m + n = omega arith in
    subst (λ k. AtMost k (and_then (Ask at question answers) follow)) e
    (λ answer is_answer. most_then (answers answer) follow m n (most answer is_answer) (λ value gives. later value (answer, is_answer, gives)))

pub most_each : {A : Type 0} (script : ℕ → List A → Script A) (n last : ℕ)
    → ((at : ℕ) (values : List A) → at < last → AtMost n (script at values))
    → (left at : ℕ) (values : List A)
    → at + left ≤ last
    → AtMost (left * n) (each script left at values)
most_each script n last most zero at values le = tt
most_each script n last most (suc left) at values le =
    let e : n + left * n ≡ suc left * n = omega arith in
    subst (λ k. AtMost k (each script (suc left) at values)) e
    (most_then (script at values) (λ value. each script left (at + 1) (values ++ value ∷ [])) n (left * n) (most at values (omega arith))
    (λ value gives. most_each script n last most left (at + 1) (values ++ value ∷ []) (omega arith)))

pub most_table : {A : Type 0} (script : ℕ → ℕ → Script A) (n channels bands : ℕ)
    → ((band channel : ℕ) → band < bands → channel < channels → AtMost n (script band channel))
    → AtMost (bands * (channels * n)) (table script channels bands)
most_table script n channels bands most =
    most_each (λ band before. row_of script band channels 0 []) (channels * n) bands
    (λ band before inside. most_each (λ channel before. script band channel) n channels
    (λ channel before within. most band channel inside within) channels 0 [] (omega arith))
    bands 0 [] (omega arith)

pub most_answer : (at : Place) (question : Question) → AtMost 1 (asks_at at question)
unfolding asks_at
most_answer at question = λ answer is_answer. tt

pub most_value : (at : Place) (question : Question) → AtMost 1 (asks_value_at at question)
unfolding asks_at asks_value_at
most_value at question = λ answer is_answer. tt

pub most_bit : (at : Place) (p : ℕ) → AtMost 1 (asks_bit at p)
unfolding asks_at asks_bit
most_bit at p = λ answer is_answer. tt
