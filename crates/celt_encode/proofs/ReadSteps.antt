-- An encoded frame is read back as the answers that are kept of its choice.
use Rattle.std.proofs.Common.{◌≡◌, ℕ, zero, suc, ◌-◌, ◌*◌, ◌/◌, ◌%◌, ◌^◌, ◌<◌, ◌≤◌, inl, inr, List, [], ◌∷◌, length, refl, sym, ap, subst, ◌∙◌, arith}
use Rattle.std.specs.Prelude.{ℤ, ⊤, Option}
use Rattle.std.proofs.lemmas.Bool.{cases_lt}
use Rattle.celt_base.specs.declared.coder.Place.{Place}
use Rattle.celt_base.specs.declared.kind.Kind.{Kind}
use Rattle.celt_base.specs.Intervals.{whole}
use Rattle.celt_base.specs.Paces.{Pace, paced}
use Rattle.celt_base.specs.Questions.{Answered}
use Rattle.celt_base.specs.WalkCalls.{meant}
use Rattle.celt_base.specs.WalkOrders.{Ends, InOrder}
use Rattle.celt_base.specs.WalkScripts.{Script, Done, Look, Ask, Begin}
use Rattle.celt_base.specs.Walks.{Event, Asked, Entered, Adds, done, looked, asked, begun, answered_in}
use Rattle.celt_base.proofs.WalkOrders.{in_order, next_after}
use Rattle.frame_symbols.specs.Frames.{Sound, frame_script, frame_next, first_pace}
use Rattle.frame_symbols.specs.Readings.{IsReading}
use Rattle.frame_symbols.specs.Validity.{AllValid}
use Rattle.frame_symbols.proofs.ValidityFrames.{frame_valid}
use Rattle.range_coder.specs.Codes.{AreAnswers, FitTypes, IsCode, told}
use Rattle.range_coder.proofs.CodeLaws.{code_is_read}
use Rattle.celt_analysis.specs.Analyses.{Analysis}
use Rattle.celt_encode.specs.Choices.{choose, answer_at}
use Rattle.celt_encode.specs.Encoders.{EncoderState, encoded, kept, outset_by, outset_for}
use Rattle.celt_encode.specs.Frames.{choice_of, chosen_list, silence_list, kept_of, frame_of}
use Rattle.celt_encode.specs.Outsets.{Outset}
use Rattle.celt_encode.specs.Standing.{noted, begun as begun_at}
use Rattle.celt_encode.specs.Wanted.{wanted}
use Rattle.celt_encode.proofs.NearestSteps.{is_nearest}
use Rattle.celt_encode.proofs.RoomLemmas.{frame_code, kept_answers}
use Rattle.celt_encode.proofs.WritingSteps.{hushed, always_one, hush_choice, kept_whole, kept_over}

-- a script whose questions are all valid adds its choice
pub choice_adds : {K A : Type 0} (noted : K → Event → K) (wants : K → Place → ℤ) (known : K) (script : Script A) (pace : Pace)
    → AllValid script
    → Adds script pace (choose noted wants known script pace).events (choose noted wants known script pace).value
choice_adds noted wants known (Done value) pace valid = done
choice_adds noted wants known (Look look) pace valid = looked (choice_adds noted wants known (look pace) pace (valid pace))
choice_adds noted wants known (Begin at script) pace valid = begun (choice_adds noted wants (noted known (Entered at)) script pace valid)
choice_adds noted wants known (Ask at question follow) pace valid =
    let near = is_nearest question (meant at question (wants known at)) valid.0 in
    asked valid.0 near.is_answer
    (choice_adds noted wants (noted known (Asked at question (answer_at at question (wants known at))))
    (follow (answer_at at question (wants known at))) (paced question (answer_at at question (wants known at)) pace)
    (valid.2 (answer_at at question (wants known at)) near.is_answer))

-- its answers are answers, and fit their types
adds_answers : {A : Type 0} {script : Script A} {pace : Pace} {events : List Event} {value : A}
    → Adds script pace events value → AreAnswers (answered_in events)
adds_answers done = tt
adds_answers (looked x) = adds_answers x
adds_answers (asked valid is x) = (valid, is, adds_answers x)
adds_answers (begun x) = adds_answers x

adds_types : {A : Type 0} {script : Script A} {pace : Pace} {events : List Event} {value : A}
    → Adds script pace events value → AllValid script → FitTypes (answered_in events)
adds_types done all = tt
adds_types (looked {pace = pace} x) all = adds_types x (all pace)
adds_types (asked {answer = answer} valid is x) all = (all.1, adds_types x (all.2 answer is))
adds_types (begun x) all = adds_types x all

-- ---- the kept answers

-- the script of a frame ends just behind these answers
pub record IsEnded (kind : Kind) (len : ℕ) (list : List Answered) : Type 0 where
  pub order : InOrder (frame_script kind len) first_pace list
  pub ends : frame_next kind len list ≡ Ends

adds_ended : (kind : Kind) (len : ℕ) {events : List Event} {value : Option Sound}
    → Adds (frame_script kind len) first_pace events value → IsEnded kind len (answered_in events)
adds_ended kind len adds = record { order = in_order adds; ends = next_after adds }

frame_adds : (f : Outset)
    → Adds (frame_script f.kind f.len) first_pace (choice_of f).events (choice_of f).value
unfolding choice_of
frame_adds f = choice_adds noted wanted (begun_at f) (frame_script f.kind f.len) first_pace (frame_valid f.kind f.len).is

chosen_ended : (f : Outset) → IsEnded f.kind f.len (chosen_list f)
unfolding chosen_list
chosen_ended f = adds_ended f.kind f.len (frame_adds f)

pub chosen_answers : (f : Outset) → AreAnswers (chosen_list f)
unfolding chosen_list
chosen_answers f = adds_answers (frame_adds f)

pub chosen_types : (f : Outset) → FitTypes (chosen_list f)
unfolding chosen_list
chosen_types f = adds_types (frame_adds f) (frame_valid f.kind f.len).is

silence_ended : (kind : Kind) (len : ℕ) → IsEnded kind len silence_list
silence_ended kind len =
    subst (IsEnded kind len) (hush_choice kind len) (adds_ended kind len (choice_adds hushed always_one tt (frame_script kind len) first_pace (frame_valid kind len).is))

kept_ended : (f : Outset) → IsEnded f.kind f.len (kept_of f)
kept_ended f = elim (cases_lt (8 * f.len) (told (chosen_list f))) [
  | inl over ↦ subst (IsEnded f.kind f.len) (kept_over f over) (silence_ended f.kind f.len)
  | inr fits ↦ subst (IsEnded f.kind f.len) (kept_whole f fits) (chosen_ended f)
]

-- ---- the reading

-- the encoded frame is the code of the kept answers
pub kept_code : (f : Outset) → 2 ≤ f.len → IsCode (kept_of f) f.len (frame_of f)
kept_code f least = frame_code f least (chosen_answers f) (chosen_types f)

reading_by : (kind : Kind) (frame : List ℕ) (len : ℕ) (list : List Answered) → length frame ≡ len → IsEnded kind len list → AreAnswers list
    → IsCode list len frame → IsReading kind frame list
reading_by kind frame len list size ended are code =
    let e : IsEnded kind (length frame) list = subst (λ n. IsEnded kind n list) (sym size) ended in
    record { order = e.order; ends = e.ends; answers = code_is_read list len frame are code }

pub kept_read : (f : Outset) → 2 ≤ f.len → IsReading f.kind (frame_of f) (kept_of f)
kept_read f least =
    let code = kept_code f least in
    reading_by f.kind (frame_of f) f.len (kept_of f) code.code.length_is (kept_ended f)
    (kept_answers f (chosen_answers f) (chosen_types f)).0 code

-- ---- the frame of an encoder

pub frame_read : (e : EncoderState) (a : Analysis) (len : ℕ) → 2 ≤ len → IsReading e.kind (encoded e a len) (kept e a len)
unfolding encoded kept outset_by
frame_read e a len least = kept_read (outset_for e a len) least

pub frame_code_is : (e : EncoderState) (a : Analysis) (len : ℕ) → 2 ≤ len → IsCode (kept e a len) len (encoded e a len)
unfolding encoded kept outset_by
frame_code_is e a len least = kept_code (outset_for e a len) least
