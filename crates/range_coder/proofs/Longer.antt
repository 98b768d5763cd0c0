-- A reader stands for a list with one answer more.
use Rattle.std.proofs.Common.{◌≡◌, ℕ, ◌+◌, List, [], ◌∷◌, ◌++◌, ℤ, sym, ◌∙◌, subst, arith, length-append}
use Rattle.celt_base.specs.declared.question.Question.{Question}
use Rattle.celt_base.specs.Questions.{Answered, after_answer, interval_of}
use Rattle.celt_base.proofs.PaceSteps.{interval_longer}
use Rattle.range_coder.specs.declared.reader.Reader.{Reader}
use Rattle.range_coder.specs.Reading.{IsGiven}
use Rattle.range_coder.specs.Windows.{Shows, TakesAnswer}
use Rattle.range_coder.specs.Readers.{StandsFor, Reads}

abbrev answered : Question → ℤ → Answered
answered question answer = record { question = question; answer = answer }

own_shows : (r : Reader) (frame : List ℕ) (list : List Answered) → StandsFor frame r list → Shows r.frame.now r.window (interval_of list)
own_shows r frame list stands = subst (λ f. Shows f r.window (interval_of list)) (sym stands.frame_is) stands.shows

stands_longer : (r s : Reader) (q : Question) (a : ℤ) → TakesAnswer r.frame.now r.window q a s.window
    → s.frame.now ≡ r.frame.now → s.asked ≡ r.asked + 1
    → (frame : List ℕ) (list : List Answered) → StandsFor frame r list → StandsFor frame s (list ++ answered q a ∷ [])
unfolding after_answer
stands_longer r s q a takes same asked frame list stands =
    let next : Shows frame s.window (after_answer (interval_of list) (answered q a)) =
    subst (λ f. Shows f s.window (after_answer (interval_of list) (answered q a))) stands.frame_is (takes.shows (interval_of list) (own_shows r frame list stands)) in
    let count = stands.count in
    record {
      frame_is = same ∙ stands.frame_is;
      shows = subst (Shows frame s.window) (sym (interval_longer list (answered q a))) next;
      count = omega (arith, length-append list (answered q a ∷ []));
    }

pub reads_answer : (r s : Reader) (q : Question) (a : ℤ) → TakesAnswer r.frame.now r.window q a s.window
    → s.frame.now ≡ r.frame.now → s.asked ≡ r.asked + 1 → Reads r q a s
reads_answer r s q a takes same asked =
    record {
      longer = stands_longer r s q a takes same asked;
      answers = λ frame list stands.
          record {
            is_answer = takes.is_answer;
            read = subst (λ f. IsGiven f (interval_of list) q a) stands.frame_is (takes.given (interval_of list) (own_shows r frame list stands));
          };
    }
