-- What a walk of a frame over a writer leaves: the writer has coded the list, and what it leaves in the room is read back.
use Rattle.std.proofs.Common.{◌≡◌, ℕ, List, [], ◌∷◌, ◌++◌, length, refl, sym, ◌∙◌, ap, subst}
use Rattle.std.specs.Prelude.{ℤ}
use Rattle.celt_base.specs.declared.kind.Kind.{Kind}
use Rattle.celt_base.specs.declared.question.Question.{Question}
use Rattle.celt_base.specs.Questions.{Answered, interval_of}
use Rattle.celt_base.specs.Paces.{pace_of}
use Rattle.celt_base.specs.WalkCalls.{ChooserCalls}
use Rattle.celt_base.specs.WalkOrders.{InOrder, Ends, outcome}
use Rattle.celt_base.specs.Walks.{Adds, answered_in}
use Rattle.celt_base.proofs.WalkOrders.{in_order, next_after, outcome_after}
use Rattle.celt_base.proofs.WalkSteps.{stands_after}
use Rattle.frame_symbols.specs.Frames.{frame_script, frame_next, first_pace}
use Rattle.frame_symbols.specs.Readings.{IsReading, HoldsReading}
use Rattle.frame_symbols.specs.Recorders.{WalkedList, answered_of}
use Rattle.frame_symbols.specs.declared.fields.Fields.{Fields}
use Rattle.frame_symbols.specs.declared.recorder.Answer.{Answer}
use Rattle.range_coder.specs.Writers.{HasCoded, Writes, writer_pace, writer_calls, IsFinished}
use Rattle.range_coder.specs.declared.sender.Finish.TheVariants.{Whole}
use Rattle.range_coder.specs.declared.writer.Writer.{Writer}
use Rattle.range_coder.proofs.Finishing.{same_pace}
use Rattle.range_coder.proofs.CodeLaws.{code_is_read}

-- It has coded the list, in the room that was lent.
pub record Codes (first w : Writer) (l : List Answered) : Type 0 where
  pub coded : HasCoded w l
  pub same : w.room.ghost_name ≡ first.room.ghost_name
  pub length_is : length w.room.now ≡ length first.room.now

codes_longer : (first c d : Writer) (question : Question) (wanted answer : ℤ) (l : List Answered) → Writes c question wanted answer d → Codes first c l
    → Codes first d (l ++ record { question = question; answer = answer } ∷ [])
codes_longer first c d question wanted answer l writes codes =
    record { coded = writes.longer l codes.coded; same = writes.same ∙ codes.same; length_is = writes.length_is ∙ codes.length_is }

pub record Written (kind : Kind) (len : ℕ) (list : List Answer) (f : Fields) (before now : Writer) : Type 0 where
  pub codes : Codes before now (answered_of list)
  pub pace : writer_pace now ≡ pace_of (interval_of (answered_of list))
  pub ends : frame_next kind len (answered_of list) ≡ Ends
  pub fields : HoldsReading kind len (answered_of list) f

pub written_walked : {H : Type 0} {chooser : ChooserCalls H} {list : List Answer} {f : Fields} {s : Writer} {h k : H} (kind : Kind) (len : ℕ) (w : Writer)
    → HasCoded w []
    → WalkedList writer_calls chooser kind len list f w h s k
    → Written kind len list f w s
unfolding interval_of
written_walked {list = list} {f = f} {s = s} kind len w coded x =
    let pace : writer_pace w ≡ first_pace = same_pace w.room.now w.sender (interval_of []) coded.matches in
    let adds : Adds (frame_script kind len) first_pace x.walked.events x.value =
    subst (λ p. Adds (frame_script kind len) p x.walked.events x.value) pace x.walked.adds in
    let codes : Codes w s (answered_in x.walked.events) =
    stands_after (Codes w) (codes_longer w) [] x.walked.through (record { coded = coded; same = refl; length_is = refl }) in
    let same : answered_in x.walked.events ≡ answered_of list = sym x.list_is in
    record {
      codes = subst (Codes w s) same codes;
      pace = same_pace s.room.now s.sender (interval_of (answered_in x.walked.events)) codes.coded.matches ∙ ap (λ l. pace_of (interval_of l)) same;
      ends = subst (λ l. frame_next kind len l ≡ Ends) same (next_after adds);
      fields = record {
        order = subst (InOrder (frame_script kind len) first_pace) same (in_order adds);
        value = x.value;
        outcome_is = ap (outcome (frame_script kind len) first_pace) (sym same) ∙ outcome_after adds;
        holds = x.holds;
      };
    }

-- where the room is whole, the list is the room's reading
pub written_reading : {kind : Kind} {len : ℕ} {list : List Answer} {f : Fields} {before now : Writer} (room : List ℕ) (range : ℕ)
    → Written kind len list f before now
    → length room ≡ len
    → IsFinished room (answered_of list) (Whole range)
    → IsReading kind room (answered_of list)
written_reading {kind} {len} {list} {f} {before} {now} room range w same is = record {
  order = subst (λ n. InOrder (frame_script kind n) first_pace (answered_of list)) (sym same) w.fields.order;
  ends = subst (λ n. frame_next kind n (answered_of list) ≡ Ends) (sym same) w.ends;
  answers = code_is_read (answered_of list) (length room) room w.codes.coded.answers is.code;
}
