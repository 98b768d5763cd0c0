-- What a writer has coded after a call.
use Rattle.std.proofs.Common.{◌≡◌, ℕ, ◌+◌, List, [], ◌∷◌, ◌++◌, ℤ, sym, subst, arith, length-append}
use Rattle.celt_base.specs.declared.question.Question.{Question}
use Rattle.celt_base.specs.Questions.{Answered, IsValid, IsAnswer, interval_of}
use Rattle.celt_base.proofs.PaceSteps.{interval_longer}
use Rattle.range_coder.specs.declared.sender.Finish.{Finish}
use Rattle.range_coder.specs.declared.sender.Finish.TheVariants.{Whole, Overrun}
use Rattle.range_coder.specs.declared.writer.Writer.{Writer}
use Rattle.range_coder.specs.Codes.{AreAnswers}
use Rattle.range_coder.specs.Senders.{Matches, SendsAnswer, Leaves}
use Rattle.range_coder.specs.Writers.{HasCoded, IsFinished}

abbrev answered : Question → ℤ → Answered
answered question answer = record { question = question; answer = answer }

answers_longer : (list : List Answered) (q : Question) (a : ℤ) → IsValid q → IsAnswer q a → AreAnswers list → AreAnswers (list ++ answered q a ∷ [])
answers_longer [] q a valid is all = (valid, is, tt)
answers_longer (b ∷ list) q a valid is all = (all.0, all.1, answers_longer list q a valid is all.2)

pub coded_longer : (w v : Writer) (q : Question) (a : ℤ) → IsValid q → IsAnswer q a → SendsAnswer w.room.now w.sender q a v.room.now v.sender
    → v.asked ≡ w.asked + 1 → (list : List Answered) → HasCoded w list → HasCoded v (list ++ answered q a ∷ [])
coded_longer w v q a valid is sends asked list coded =
    let count = coded.count in
    record {
      matches = subst (Matches v.room.now v.sender) (sym (interval_longer list (answered q a))) (sends.matches (interval_of list) coded.matches);
      count = omega (arith, length-append list (answered q a ∷ []));
      answers = answers_longer list q a valid is coded.answers;
    }

-- what is left at the interval of a list is left of the list
pub finished : (room : List ℕ) (list : List Answered) (finish : Finish) → Leaves room (interval_of list) finish → IsFinished room list finish
finished room list (Whole range) left = record { code = record { fits = left.fits; code = left.code }; range_is = left.range_is }
finished room list (Overrun tell) left = record { tell_is = left.tell_is; more = left.more; zero = left.zero }
