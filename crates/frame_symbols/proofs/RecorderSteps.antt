-- What a recorder keeps of a walk: the coder below was taken through the same calls, the list is longer by just these
-- questions and answers, and both are in the places that were lent.
use Rattle.std.proofs.Common.{◌≡◌, List, [], ◌∷◌, ◌++◌, refl, sym, ◌∙◌, ap, append_assoc}
use Rattle.std.proofs.lemmas.List.{append-nil}
use Rattle.std.specs.Prelude.{ℤ}
use Rattle.celt_base.specs.declared.question.Question.{Question}
use Rattle.celt_base.specs.WalkCalls.{CoderCalls, ChooserCalls}
use Rattle.celt_base.specs.Walks.{Event, Through, none, called, entered, answered_in}
use Rattle.frame_symbols.specs.declared.recorder.Answer.{Answer}
use Rattle.frame_symbols.specs.Recorders.{recorder_calls, answered_of}

-- one answer more
pub answered_more : (list : List Answer) (question : Question) (answer : ℤ)
    → answered_of (list ++ record { question = question; value = answer } ∷ []) ≡ answered_of list ++ record { question = question; answer = answer } ∷ []
answered_more [] question answer = refl
answered_more (a ∷ list) question answer = ap (λ more. record { question = a.question; answer = a.value } ∷ more) (answered_more list question answer)

-- What comes of a walk over a recorder.
pub record Kept {C H R M N : Type 0} (coder : CoderCalls C) (chooser : ChooserCalls H) (inner : R → C) (list : R → List Answer) (lent : R → M) (name : R → N)
    (events : List Event) (r : R) (h : H) (s : R) (k : H) : Type 0 where
  pub through : Through coder chooser events (inner r) h (inner s) k
  pub list_is : answered_of (list s) ≡ answered_of (list r) ++ answered_in events
  pub same_coder : lent s ≡ lent r
  pub same_list : name s ≡ name r

module _ {C H R M N : Type 0} {coder : CoderCalls C} {chooser : ChooserCalls H} {inner : R → C} {list : R → List Answer} {lent : R → M} {name : R → N} where
  pub kept_after : {events : List Event} {r s : R} {h k : H}
      → Through (recorder_calls coder inner list lent name) chooser events r h s k
      → Kept coder chooser inner list lent name events r h s k
  kept_after (none {c = r}) = record { through = none; list_is = sym (append-nil (answered_of (list r))); same_coder = refl; same_list = refl }
  kept_after (called {question = question} {answer = answer} {events = events} {c = r} call x) =
      let rest = kept_after x in
      record {
        through = called (record { wanted = call.wanted; between = call.between; wants = call.wants; asks = call.asks.asks; told = call.told }) rest.through;
        list_is =
            rest.list_is
            ∙ ap (λ l. l ++ answered_in events) (ap answered_of call.asks.longer ∙ answered_more (list r) question answer)
            ∙ append_assoc (answered_of (list r)) (record { question = question; answer = answer } ∷ []) (answered_in events);
        same_coder = rest.same_coder ∙ call.asks.same_coder;
        same_list = rest.same_list ∙ call.asks.same_list;
      }
  kept_after (entered enter x) =
      let rest = kept_after x in record { through = entered enter rest.through; list_is = rest.list_is; same_coder = rest.same_coder; same_list = rest.same_list }
