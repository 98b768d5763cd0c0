-- How walks are joined: what two scripts add one after the other, and a walk that is on its way.
use Rattle.std.proofs.Common.{◌≡◌, ℕ, ◌+◌, ℤ, List, [], ◌∷◌, ◌++◌, length, refl, sym, ◌∙◌, ap, subst, append_assoc, length-append, arith, Bool, true, false, if◌then◌else◌}
use Rattle.std.proofs.lemmas.List.{append-nil}
use Rattle.celt_base.specs.declared.coder.Enter.{Enter}
use Rattle.celt_base.specs.declared.coder.Place.{Place}
use Rattle.celt_base.specs.declared.question.Question.{Question}
use Rattle.celt_base.specs.declared.question.Question.TheVariants.{Bit}
use Rattle.celt_base.specs.Paces.{Pace, paced}
use Rattle.celt_base.specs.Questions.{Answered, IsValid, IsAnswer}
use Rattle.celt_base.specs.WalkCalls.{CoderCalls, ChooserCalls, Call, heard, meant}
use Rattle.celt_base.specs.WalkOrders.{Decided}
use Rattle.celt_base.specs.WalkScripts.{Script, Done, Look, Ask, Begin, and_then, asks_at, asks_value_at, asks_bit, is_one}
use Rattle.celt_base.specs.Walks.{Event, Asked, Entered, answered_in, count_of, pace_after, Adds, done, looked, asked, begun, Through, none, called, entered, Walked}

pub answers_append : (events more : List Event) → answered_in (events ++ more) ≡ answered_in events ++ answered_in more
answers_append [] more = refl
answers_append (Asked at question answer ∷ events) more =
    ap (λ list. let a : Answered = record { question = question; answer = answer } in a ∷ list) (answers_append events more)
answers_append (Entered at ∷ events) more = answers_append events more

pub count_append : (events more : List Event) → count_of (events ++ more) ≡ count_of events + count_of more
count_append events more = ap length (answers_append events more) ∙ length-append (answered_in events) (answered_in more)

pace_append : (list more : List Answered) (pace : Pace) → pace_after (list ++ more) pace ≡ pace_after more (pace_after list pace)
pace_append [] more pace = refl
pace_append (a ∷ list) more pace = pace_append list more (paced a.question a.answer pace)

pub pace_after_append : (events more : List Event) (pace : Pace)
    → pace_after (answered_in (events ++ more)) pace ≡ pace_after (answered_in more) (pace_after (answered_in events) pace)
pace_after_append events more pace =
    ap (λ list. pace_after list pace) (answers_append events more) ∙ pace_append (answered_in events) (answered_in more) pace

-- what one script adds and then the next
pub adds_then : {A B : Type 0} {script : Script A} {pace : Pace} {events : List Event} {value : A} (next : A → Script B) {more : List Event} {last : B}
    → Adds script pace events value
    → Adds (next value) (pace_after (answered_in events) pace) more last
    → Adds (and_then script next) pace (events ++ more) last
adds_then next done y = y
adds_then next (looked x) y = looked (adds_then next x y)
adds_then next (asked valid answer x) y = asked valid answer (adds_then next x y)
adds_then next (begun x) y = begun (adds_then next x y)

-- the same before what follows both
pub adds_within : {A B D : Type 0} {script : Script A} {pace : Pace} {events : List Event} {value : A} (next : A → Script B) (rest : B → Script D) {more : List Event} {last : D}
    → Adds script pace events value
    → Adds (and_then (next value) rest) (pace_after (answered_in events) pace) more last
    → Adds (and_then (and_then script next) rest) pace (events ++ more) last
adds_within next rest done y = y
adds_within next rest (looked x) y = looked (adds_within next rest x y)
adds_within next rest (asked valid answer x) y = asked valid answer (adds_within next rest x y)
adds_within next rest (begun x) y = begun (adds_within next rest x y)

pub through_append : {C H : Type 0} {coder : CoderCalls C} {chooser : ChooserCalls H} {events more : List Event} {c d e : C} {h k m : H}
    → Through coder chooser events c h d k
    → Through coder chooser more d k e m
    → Through coder chooser (events ++ more) c h e m
through_append none y = y
through_append (called call x) y = called call (through_append x y)
through_append (entered enter x) y = entered enter (through_append x y)

-- A walk of `script` on its way: `left` is what is still to be walked from here.
pub record Going {C H A : Type 0} (coder : CoderCalls C) (chooser : ChooserCalls H) (script left : Script A)
    (c : C) (h : H) (d : C) (k : H) : Type 0 where
  pub events : List Event
  pub resumes : (more : List Event) (value : A)
      → Adds left (coder.pace d) more value
      → Adds script (coder.pace c) (events ++ more) value
  pub through : Through coder chooser events c h d k
  pub pace : coder.pace d ≡ pace_after (answered_in events) (coder.pace c)
  pub count : coder.count d ≡ coder.count c + count_of events

joined_count : (events more : List Event) (c d e : ℕ)
    → d ≡ c + count_of events
    → e ≡ d + count_of more
    → e ≡ c + count_of (events ++ more)
joined_count events more c d e first second = let n = count_append events more in omega arith

joined_pace : (events more : List Event) (first middle last : Pace)
    → middle ≡ pace_after (answered_in events) first
    → last ≡ pace_after (answered_in more) middle
    → last ≡ pace_after (answered_in (events ++ more)) first
joined_pace events more first middle last to_middle to_last =
    to_last ∙ ap (λ pace. pace_after (answered_in more) pace) to_middle ∙ sym (pace_after_append events more first)

module _ {C H : Type 0} {coder : CoderCalls C} {chooser : ChooserCalls H} where
  -- at the start
  pub start : {A : Type 0} {script : Script A} {c : C} {h : H} → Going coder chooser script script c h c h
  start = record {
    events = [];
    resumes = λ more value x. x;
    through = none;
    pace = refl;
    count = omega arith;
  }

  -- the pace is looked at
  pub look : {A : Type 0} {script : Script A} {from : Pace → Script A} {c d : C} {h k : H}
      → Going coder chooser script (Look from) c h d k
      → Going coder chooser script (from (coder.pace d)) c h d k
  look g = record {
    events = g.events;
    resumes = λ more value x. g.resumes more value (looked x);
    through = g.through;
    pace = g.pace;
    count = g.count;
  }

  -- a band is entered
  pub enter : {A : Type 0} {script left : Script A} {at : Enter} {c d : C} {h k m : H}
      → Going coder chooser script (Begin at left) c h d k
      → chooser.Enters k at m
      → Going coder chooser script left c h d m
  enter {script = script} {at = at} {c = c} g x =
      let one : List Event = Entered at ∷ [] in
      record {
        events = g.events ++ one;
        resumes = λ more value y.
            subst (λ events. Adds script (coder.pace c) events value) (sym (append_assoc g.events one more)) (g.resumes (one ++ more) value (begun y));
        through = through_append g.through (entered x none);
        pace = g.pace ∙ sym (pace_after_append g.events one (coder.pace c));
        count = let e = count_append g.events one in let n = g.count in omega (arith, e, n);
      }

  -- the next script is walked
  pub walk : {A B : Type 0} {script : Script B} {first : Script A} {value : A} {c d e : C} {h k m : H} (next : A → Script B)
      → Going coder chooser script (and_then first next) c h d k
      → Walked coder chooser first value d k e m
      → Going coder chooser script (next value) c h e m
  walk {script = script} {value = value} {c = c} {d = d} {e = e} next g w = record {
    events = g.events ++ w.events;
    resumes = λ more last x.
        subst (λ events. Adds script (coder.pace c) events last) (sym (append_assoc g.events w.events more))
        (g.resumes (w.events ++ more) last
        (adds_then next w.adds (subst (λ pace. Adds (next value) pace more last) w.pace x)));
    through = through_append g.through w.through;
    pace = joined_pace g.events w.events (coder.pace c) (coder.pace d) (coder.pace e) g.pace w.pace;
    count = joined_count g.events w.events (coder.count c) (coder.count d) (coder.count e) g.count w.count;
  }

  -- the next script is walked, before what follows both
  pub walk_in : {A B D : Type 0} {script : Script D} {first : Script A} {value : A} {c d e : C} {h k m : H} (next : A → Script B) (rest : B → Script D)
      → Going coder chooser script (and_then (and_then first next) rest) c h d k
      → Walked coder chooser first value d k e m
      → Going coder chooser script (and_then (next value) rest) c h e m
  walk_in {script = script} {value = value} {c = c} {d = d} {e = e} next rest g w = record {
    events = g.events ++ w.events;
    resumes = λ more last x.
        subst (λ events. Adds script (coder.pace c) events last) (sym (append_assoc g.events w.events more))
        (g.resumes (w.events ++ more) last
        (adds_within next rest w.adds (subst (λ pace. Adds (and_then (next value) rest) pace more last) w.pace x)));
    through = through_append g.through w.through;
    pace = joined_pace g.events w.events (coder.pace c) (coder.pace d) (coder.pace e) g.pace w.pace;
    count = joined_count g.events w.events (coder.count c) (coder.count d) (coder.count e) g.count w.count;
  }

  -- the last script is walked
  pub walk_last : {A : Type 0} {script left : Script A} {value : A} {c d e : C} {h k m : H}
      → Going coder chooser script left c h d k
      → Walked coder chooser left value d k e m
      → Walked coder chooser script value c h e m
  walk_last {value = value} {c = c} {d = d} {e = e} g w = record {
    events = g.events ++ w.events;
    adds = g.resumes w.events value w.adds;
    through = through_append g.through w.through;
    pace = joined_pace g.events w.events (coder.pace c) (coder.pace d) (coder.pace e) g.pace w.pace;
    count = joined_count g.events w.events (coder.count c) (coder.count d) (coder.count e) g.count w.count;
  }

  -- nothing is asked
  pub no_walk : {A : Type 0} {value : A} {c : C} {h : H} → Walked coder chooser (Done value) value c h c h
  no_walk = record { events = []; adds = done; through = none; pace = refl; count = omega arith }

  -- at the end
  pub end : {A : Type 0} {script : Script A} {value : A} {c d : C} {h k : H}
      → Going coder chooser script (Done value) c h d k
      → Walked coder chooser script value c h d k
  end {script = script} {value = value} {c = c} g = record {
    events = g.events;
    adds = subst (λ events. Adds script (coder.pace c) events value) (append-nil g.events) (g.resumes [] value done);
    through = g.through;
    pace = g.pace;
    count = g.count;
  }

  -- the script that a test chooses
  pub when_true : {A : Type 0} {value : A} {c d : C} {h k : H} (test : Bool) (first second : Script A)
      → test ≡ true
      → Walked coder chooser first value c h d k
      → Walked coder chooser (if test then first else second) value c h d k
  when_true {value = value} {c = c} {d = d} {h = h} {k = k} test first second e w =
      subst (λ t. Walked coder chooser (if t then first else second) value c h d k) (sym e) w

  pub when_false : {A : Type 0} {value : A} {c d : C} {h k : H} (test : Bool) (first second : Script A)
      → test ≡ false
      → Walked coder chooser second value c h d k
      → Walked coder chooser (if test then first else second) value c h d k
  when_false {value = value} {c = c} {d = d} {h = h} {k = k} test first second e w =
      subst (λ t. Walked coder chooser (if t then first else second) value c h d k) (sym e) w

  -- a question is asked: its answer, the value of its answer, whether it is 1
  pub one_answer : (at : Place) (question : Question) {answer : ℤ} {c d : C} {h k : H}
      → IsValid question
      → IsAnswer question answer
      → coder.pace d ≡ paced question answer (coder.pace c)
      → coder.count d ≡ coder.count c + 1
      → Call coder chooser at question answer c h d k
      → Walked coder chooser (asks_at at question) answer c h d k
  unfolding asks_at
  one_answer at question {answer} valid is_answer pace count call = record {
    events = Asked at question answer ∷ [];
    adds = asked valid is_answer done;
    through = called call none;
    pace = pace;
    count = count;
  }

  pub one_value : (at : Place) (question : Question) {answer : ℤ} {c d : C} {h k : H}
      → Walked coder chooser (asks_at at question) answer c h d k
      → Walked coder chooser (asks_value_at at question) (heard at question answer) c h d k
  unfolding asks_value_at
  one_value at question w = end (walk (λ answer. Done (heard at question answer)) start w)

  pub one_bit : (at : Place) (p : ℕ) {answer : ℤ} {c d : C} {h k : H}
      → Walked coder chooser (asks_at at (Bit p)) answer c h d k
      → Walked coder chooser (asks_bit at p) (is_one answer) c h d k
  unfolding asks_bit
  one_bit at p w = end (walk (λ answer. Done (is_one answer)) start w)

-- What an asking script added, taken apart.
pub record Answering {A : Type 0} (at : Place) (question : Question) (follow : ℤ → Script A) (pace : Pace) (events : List Event) (value : A) : Type 0 where
  pub answer : ℤ
  pub rest : List Event
  pub is_valid : IsValid question
  pub is_answer : IsAnswer question answer
  pub events_are : events ≡ Asked at question answer ∷ rest
  pub adds : Adds (follow answer) (paced question answer pace) rest value

pub answering : {A : Type 0} {at : Place} {question : Question} {follow : ℤ → Script A} {pace : Pace} {events : List Event} {value : A}
    → Adds (Ask at question follow) pace events value
    → Answering at question follow pace events value
answering (asked {answer = answer} {events = events} valid is_answer x) = record {
  answer = answer;
  rest = events;
  is_valid = valid;
  is_answer = is_answer;
  events_are = refl;
  adds = x;
}

pub finished : {A : Type 0} {last : A} {pace : Pace} {events : List Event} {value : A}
    → Adds (Done last) pace events value
    → (events ≡ []) × (value ≡ last)
finished done = (refl, refl)

-- Where each call of `ask` makes the list longer that a coder stands for, a walk does so by all it adds; and each answer
-- is as what stood before decided it.
module _ {C H : Type 0} {coder : CoderCalls C} {chooser : ChooserCalls H} (Stands : C → List Answered → Type 0)
    (longer : (c d : C) (question : Question) (wanted answer : ℤ) (list : List Answered)
    → coder.Asks c question wanted answer d
    → Stands c list
    → Stands d (list ++ record { question = question; answer = answer } ∷ [])) where
  pub stands_after : {events : List Event} {c d : C} {h k : H} (list : List Answered)
      → Through coder chooser events c h d k
      → Stands c list
      → Stands d (list ++ answered_in events)
  stands_after {c = c} list none s = subst (Stands c) (sym (append-nil list)) s
  stands_after {d = e} list (called {at = at} {question = question} {answer = answer} {events = events} {c = c} {d = d} call x) s =
      let a : Answered = record { question = question; answer = answer } in
      subst (Stands e) (append_assoc list (a ∷ []) (answered_in events))
      (stands_after (list ++ a ∷ []) x (longer c d question (meant at question call.wanted) answer list call.asks s))
  stands_after list (entered enter x) s = stands_after list x s

  pub decided_after : (decides : List Answered → Question → ℤ → Type 0)
      → ((c d : C) (question : Question) (wanted answer : ℤ) (list : List Answered) → coder.Asks c question wanted answer d → Stands c list → decides list question answer)
      → {events : List Event} {c d : C} {h k : H} (list : List Answered)
      → Through coder chooser events c h d k
      → Stands c list
      → Decided decides (λ before a. before ++ a ∷ []) list (answered_in events)
  decided_after decides gives list none s = tt
  decided_after decides gives list (called {at = at} {question = question} {answer = answer} {c = c} {d = d} call x) s = (
    gives c d question (meant at question call.wanted) answer list call.asks s,
    decided_after decides gives (list ++ record { question = question; answer = answer } ∷ []) x
        (longer c d question (meant at question call.wanted) answer list call.asks s),
  )
  decided_after decides gives list (entered enter x) s = decided_after decides gives list x s
