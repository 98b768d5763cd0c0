-- A part that was sent: narrowed to it, then grown.
use Rattle.std.proofs.Common.{◌≡◌, ℕ, List, ◌∙◌, ap, sym, subst}
use Rattle.celt_base.specs.Questions.{part_of, bit_row}
use Rattle.celt_base.specs.Intervals.{Part, Interval, InPart, narrowed, grown, after}
use Rattle.celt_base.specs.Paces.{narrowed_pace, grown_pace, after_pace}
use Rattle.range_coder.specs.declared.sender.Sender.{Sender}
use Rattle.range_coder.specs.Senders.{sender_pace, Matches, Sends}

pub sent_part : (old new : List ℕ) (s n r : Sender) (part : Part)
    → ((i : Interval) → Matches old s i → Matches old n (narrowed part i))
    → sender_pace n ≡ narrowed_pace part (sender_pace s)
    → ((i : Interval) → Matches old n i → Matches new r (grown (grown (grown i))))
    → sender_pace r ≡ grown_pace (grown_pace (grown_pace (sender_pace n)))
    → Sends old s (InPart part) new r
unfolding after after_pace
sent_part old new s n r part matches pace grow grow_pace =
    record {
      matches = λ i is. grow (narrowed part i) (matches i is);
      pace = grow_pace ∙ ap (λ p. grown_pace (grown_pace (grown_pace p))) pace;
    }

-- the part of a bit by its answer
pub sent_at : (old new : List ℕ) (s r : Sender) (p bit answer : ℕ) → bit ≡ answer
    → Sends old s (InPart (part_of (bit_row p) answer)) new r → Sends old s (InPart (part_of (bit_row p) bit)) new r
sent_at old new s r p bit answer e = subst (λ n. Sends old s (InPart (part_of (bit_row p) n)) new r) (sym e)
