-- A walk of a writer and of a chooser that keeps what is known makes the choice, and there is no other.
use Rattle.std.proofs.Common.{◌≡◌, ℤ, List, refl, ◌∙◌, ap, subst}
use Rattle.celt_base.specs.declared.coder.Enter.{Enter}
use Rattle.celt_base.specs.declared.coder.Place.{Place}
use Rattle.celt_base.specs.declared.question.Question.{Question}
use Rattle.celt_base.specs.Paces.{Pace, paced}
use Rattle.celt_base.specs.WalkCalls.{CoderCalls, ChooserCalls, Call, heard, meant}
use Rattle.celt_base.specs.WalkScripts.{Script}
use Rattle.celt_base.specs.Walks.{Event, Asked, Entered, Adds, done, looked, asked, begun, Through, none, called, entered, Walked}
use Rattle.range_coder.specs.Nearest.{IsNearest}
use Rattle.celt_encode.proofs.NearestSteps.{nearest_is}
use Rattle.celt_encode.specs.Choices.{choose, preceded, answer_at, AreNearest}

-- what a script adds by nearest answers is its choice
pub chosen_is : {K A : Type 0} (noted : K → Event → K) (wants : K → Place → ℤ) (known : K) {script : Script A} {pace : Pace} {events : List Event} {value : A}
    → Adds script pace events value
    → AreNearest noted wants known events
    → record { events = events; value = value } ≡ choose noted wants known script pace
chosen_is noted wants known done near = refl
chosen_is noted wants known (looked adds) near = chosen_is noted wants known adds near
chosen_is noted wants known (begun {at = at} adds) near = ap (preceded (Entered at)) (chosen_is noted wants (noted known (Entered at)) adds near)
chosen_is noted wants known (asked {at = at} {question = question} {answer = answer} {follow = follow} {pace = pace} valid is adds) near =
    let e : answer ≡ answer_at at question (wants known at) = nearest_is question (meant at question (wants known at)) answer valid near.0 in
    ap (preceded (Asked at question answer)) (chosen_is noted wants (noted known (Asked at question answer)) adds near.1)
    ∙ ap (λ a. preceded (Asked at question a) (choose noted wants (noted known (Asked at question a)) (follow a) (paced question a pace))) e

module _ {C H K : Type 0} {coder : CoderCalls C} {chooser : ChooserCalls H} (known_of : H → K) (noted : K → Event → K)
    (wants : K → Place → ℤ)
    (enters : (h k : H) (at : Enter) → chooser.Enters h at k → known_of k ≡ noted (known_of h) (Entered at))
    (keeps : (h k : H) (at : Place) (question : Question) (wanted : ℤ) → chooser.Wants h at question wanted k → known_of k ≡ known_of h)
    (is_wanted : (h k : H) (at : Place) (question : Question) (wanted : ℤ) → chooser.Wants h at question wanted k
    → wanted ≡ wants (known_of h) at)
    (tells : (h k : H) (at : Place) (question : Question) (answer : ℤ) → chooser.Told h at (heard at question answer) k
    → known_of k ≡ noted (known_of h) (Asked at question answer)) where
  called_known : {at : Place} {question : Question} {answer : ℤ} {c d : C} {h k : H}
      → Call coder chooser at question answer c h d k → known_of k ≡ noted (known_of h) (Asked at question answer)
  called_known {at} {question} {answer} {c} {d} {h} {k} call =
      tells call.between k at question answer call.told
      ∙ ap (λ known. noted known (Asked at question answer)) (keeps h call.between at question call.wanted call.wants)

  -- where the coder's answers are the nearest ones, they are the nearest to what the definition wants
  pub through_nearest : ((c d : C) (question : Question) (wanted answer : ℤ) → coder.Asks c question wanted answer d → IsNearest question wanted answer)
      → {events : List Event} {c d : C} {h k : H}
      → Through coder chooser events c h d k → AreNearest noted wants (known_of h) events
  through_nearest near none = tt
  through_nearest near (called {at = at} {question = question} {answer = answer} {events = events} {c = c} {d = d} {h = h} {k = k} call x) = (
    subst (λ wanted. IsNearest question (meant at question wanted) answer) (is_wanted h call.between at question call.wanted call.wants)
        (near c d question (meant at question call.wanted) answer call.asks),
    subst (λ known. AreNearest noted wants known events) (called_known call) (through_nearest near x),
  )
  through_nearest near (entered {at = at} {events = events} {h = h} {k = k} enter x) =
      subst (λ known. AreNearest noted wants known events) (enters h k at enter) (through_nearest near x)

  -- a walk makes the choice of its script
  pub walked_choice : ((c d : C) (question : Question) (wanted answer : ℤ) → coder.Asks c question wanted answer d → IsNearest question wanted answer)
      → {A : Type 0} {script : Script A} {value : A} {c d : C} {h k : H}
      → (w : Walked coder chooser script value c h d k)
      → record { events = w.events; value = value } ≡ choose noted wants (known_of h) script (coder.pace c)
  walked_choice near {h = h} w = chosen_is noted wants (known_of h) w.adds (through_nearest near w.through)
