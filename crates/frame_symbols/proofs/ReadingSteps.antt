-- A reading: what a walk over a reader added is the one list in order whose answers are the frame's.
use Rattle.std.proofs.Common.{◌≡◌, ℕ, List, [], ◌∷◌, ◌++◌, length, sym, ◌∙◌, ap, subst}
use Rattle.std.specs.Prelude.{ℤ, Option, None, Some}
use Rattle.celt_base.specs.declared.kind.Kind.{Kind}
use Rattle.celt_base.specs.declared.question.Question.{Question}
use Rattle.celt_base.specs.Intervals.{Interval, whole}
use Rattle.celt_base.specs.Questions.{Answered, interval_of, after_answer}
use Rattle.celt_base.specs.Paces.{pace_of}
use Rattle.celt_base.specs.WalkOrders.{Decided, InOrder, outcome}
use Rattle.celt_base.specs.Walks.{Event, Adds, answered_in}
use Rattle.celt_base.proofs.WalkOrders.{in_order, next_after, outcome_after, one_list}
use Rattle.celt_base.proofs.WalkSteps.{stands_after, decided_after}
use Rattle.celt_base.specs.WalkCalls.{ChooserCalls}
use Rattle.frame_symbols.specs.Frames.{Sound, frame_script, first_pace}
use Rattle.frame_symbols.proofs.ComputedReadings.{read_is}
use Rattle.frame_symbols.specs.Held.{HoldsFrame}
use Rattle.frame_symbols.specs.Readings.{IsReading, HoldsReading, reading_of}
use Rattle.frame_symbols.specs.Recorders.{WalkedList, answered_of}
use Rattle.frame_symbols.specs.declared.fields.Fields.{Fields}
use Rattle.frame_symbols.specs.declared.recorder.Answer.{Answer}
use Rattle.range_coder.specs.declared.reader.Reader.{Reader}
use Rattle.range_coder.specs.Readers.{StandsFor, Reads, reader_pace, reader_calls}
use Rattle.range_coder.proofs.Showing.{pace_with}
use Rattle.range_coder.specs.Reading.{Answers, AnswersFrom}
use Rattle.range_coder.proofs.Answering.{answer_determined, answers_from}

decided_from : (frame : List ℕ) (i : Interval) (list : List Answered) → AnswersFrom frame i list
    → Decided (λ before question answer. Answers frame before question answer) after_answer i list
decided_from frame i [] a = tt
decided_from frame i (x ∷ list) a = (a.0, decided_from frame (after_answer i x) list a.1)

-- there is one reading at most
pub one_reading : (kind : Kind) (frame : List ℕ) (xs ys : List Answered) → IsReading kind frame xs → IsReading kind frame ys → xs ≡ ys
one_reading kind frame xs ys x y =
    one_list (λ before question answer. Answers frame before question answer) after_answer (λ i question a b p q. answer_determined frame i question a b p q)
    (frame_script kind (length frame)) first_pace whole xs ys
    x.order x.ends (decided_from frame whole xs x.answers) y.order y.ends (decided_from frame whole ys y.answers)

-- the reading is the one that is computed
pub computed_list : (kind : Kind) (frame : List ℕ) (list : List Answered) → IsReading kind frame list → (reading_of kind frame).list ≡ list
unfolding reading_of
computed_list kind frame list is = (read_is frame (frame_script kind (length frame)) first_pace whole list is.order is.ends is.answers).list_is

pub computed_value : (kind : Kind) (frame : List ℕ) (list : List Answered) → IsReading kind frame list
    → outcome (frame_script kind (length frame)) first_pace list ≡ Some (reading_of kind frame).value
unfolding reading_of
computed_value kind frame list is = (read_is frame (frame_script kind (length frame)) first_pace whole list is.order is.ends is.answers).value_is

-- the value that there is, or another
some_or : {A : Type 0} → Option A → A → A
some_or None other = other
some_or (Some value) other = value

some_same : {A : Type 0} (a b : A) → Some a ≡ Some b → a ≡ b
unfolding some_or
some_same a b e = ap (λ o. some_or o a) e

-- the fields hold what the computed reading comes to
pub computed_holds : (kind : Kind) (frame : List ℕ) (list : List Answered) (f : Fields) → IsReading kind frame list
    → HoldsReading kind (length frame) list f
    → HoldsFrame kind f (reading_of kind frame).value
computed_holds kind frame list f is held =
    subst (HoldsFrame kind f) (some_same held.value (reading_of kind frame).value (sym held.outcome_is ∙ computed_value kind frame list is)) held.holds

-- what the script of the frame added is a reading, where its answers are the frame's
pub is_reading : (kind : Kind) (frame : List ℕ) {events : List Event} {value : Option Sound}
    → Adds (frame_script kind (length frame)) first_pace events value
    → Decided (λ l question answer. Answers frame (interval_of l) question answer) (λ l a. l ++ a ∷ []) [] (answered_in events)
    → IsReading kind frame (answered_in events)
unfolding interval_of
is_reading kind frame {events} adds decided = record {
  order = in_order adds;
  ends = next_after adds;
  answers = answers_from frame [] (answered_in events) decided;
}

start_pace : (frame : List ℕ) (r : Reader) → StandsFor frame r [] → reader_pace r ≡ first_pace
unfolding interval_of
start_pace frame r stands = ap (λ n. pace_with n r.window.bits) stands.shows.width ∙ ap (pace_with (interval_of []).width) stands.shows.bits

-- What a walk of a frame over a reader at its start leaves.
pub record Read (kind : Kind) (frame : List ℕ) (list : List Answer) (f : Fields) (s : Reader) : Type 0 where
  pub reading : IsReading kind frame (answered_of list)
  pub fields : HoldsReading kind (length frame) (answered_of list) f
  pub pace : reader_pace s ≡ pace_of (interval_of (answered_of list))

pub read_walked : {H : Type 0} {chooser : ChooserCalls H} {list : List Answer} {f : Fields} {s : Reader} {h k : H} (kind : Kind) (frame : List ℕ) (r : Reader)
    → StandsFor frame r []
    → WalkedList reader_calls chooser kind (length frame) list f r h s k
    → Read kind frame list f s
read_walked {list = list} {f = f} {s = s} kind frame r stands w =
    let adds : Adds (frame_script kind (length frame)) first_pace w.walked.events w.value =
    subst (λ p. Adds (frame_script kind (length frame)) p w.walked.events w.value) (start_pace frame r stands) w.walked.adds in
    let longer : (c d : Reader) (question : Question) (wanted answer : ℤ) (l : List Answered) → Reads c question answer d → StandsFor frame c l
    → StandsFor frame d (l ++ record { question = question; answer = answer } ∷ []) =
    λ c d question wanted answer l asks st. asks.longer frame l st in
    let decided = decided_after (StandsFor frame) longer (λ l question answer. Answers frame (interval_of l) question answer)
    (λ c d question wanted answer l asks st. asks.answers frame l st) [] w.walked.through stands in
    let after : StandsFor frame s (answered_in w.walked.events) = stands_after (StandsFor frame) longer [] w.walked.through stands in
    let same : answered_in w.walked.events ≡ answered_of list = sym w.list_is in
    record {
      reading = subst (IsReading kind frame) same (is_reading kind frame adds decided);
      fields = record {
        order = subst (InOrder (frame_script kind (length frame)) first_pace) same (in_order adds);
        value = w.value;
        outcome_is = ap (outcome (frame_script kind (length frame)) first_pace) (sym same) ∙ outcome_after adds;
        holds = w.holds;
      };
      pace = ap (λ n. pace_with n s.window.bits) after.shows.width ∙ ap (pace_with (interval_of (answered_in w.walked.events)).width) after.shows.bits ∙ ap (λ l. pace_of (interval_of l)) same;
    }
