-- An answer that was sent, from its symbols.
use Rattle.std.proofs.Common.{◌≡◌, ℕ, List, [], ◌∷◌, ℤ, sym, ap, ◌∙◌, subst}
use Rattle.celt_base.specs.declared.question.Question.{Question}
use Rattle.celt_base.specs.Intervals.{Symbol, after}
use Rattle.celt_base.specs.Paces.{after_pace}
use Rattle.celt_base.specs.Questions.{steps}
use Rattle.range_coder.specs.declared.sender.Sender.{Sender}
use Rattle.range_coder.specs.Senders.{sender_pace, Matches, Sends, SendsAnswer}
use Rattle.range_coder.proofs.PlacesLemmas.{coded_after, coded_pace}

pub one_sent : (old new : List ℕ) (s r : Sender) (q : Question) (a : ℤ) (symbol : Symbol) → steps q a ≡ symbol ∷ []
    → Sends old s symbol new r → SendsAnswer old s q a new r
one_sent old new s r q a symbol e sends =
    record {
      matches = λ i is. subst (Matches new r) (coded_after q a (symbol ∷ []) i e) (sends.matches i is);
      pace = sends.pace ∙ coded_pace q a (symbol ∷ []) (sender_pace s) e;
    }

pub two_sent : (old mid new : List ℕ) (s m r : Sender) (q : Question) (a : ℤ) (x y : Symbol) → steps q a ≡ x ∷ y ∷ []
    → Sends old s x mid m → Sends mid m y new r → SendsAnswer old s q a new r
two_sent old mid new s m r q a x y e first second =
    record {
      matches = λ i is. subst (Matches new r) (coded_after q a (x ∷ y ∷ []) i e) (second.matches (after i x) (first.matches i is));
      pace = second.pace ∙ ap (λ p. after_pace p y) first.pace ∙ coded_pace q a (x ∷ y ∷ []) (sender_pace s) e;
    }

pub answer_is : (old new : List ℕ) (s r : Sender) (q : Question) (a b : ℤ) → b ≡ a → SendsAnswer old s q a new r → SendsAnswer old s q b new r
answer_is old new s r q a b e = subst (λ z. SendsAnswer old s q z new r) (sym e)
