-- What is written is the encoded frame.
use Rattle.std.proofs.Common.{◌≡◌, ℕ, ◌-◌, ◌*◌, ◌^◌, ◌<◌, ◌≤◌, ℤ, pos, List, [], refl, sym, ap, ◌∙◌, arith, length}
use lib.Count.{count_leading_zeros}
use Rattle.std.specs.Prelude.{⊤, nat_le, Some, None}
use Rattle.std.proofs.lemmas.Bool.{cond-true, cond-false, le-leb, lt-leb}
use Rattle.celt_base.specs.declared.coder.Place.{Place}
use Rattle.celt_base.specs.declared.kind.Kind.{Kind}
use Rattle.celt_base.specs.Intervals.{Interval, narrowed, grown, after}
use Rattle.celt_base.specs.Paces.{pace_of, tell_of}
use Rattle.celt_base.specs.Questions.{Answered, after_answer, interval_of}
use Rattle.celt_base.specs.WalkScripts.{asks_at, asks_bit, is_one}
use Rattle.celt_base.specs.WalkCalls.{meant}
use Rattle.celt_base.specs.Walks.{Event, answered_in}
use Rattle.fixed_math.specs.Search.{greatest}
use Rattle.frame_symbols.specs.declared.fields.Fields.{Fields}
use Rattle.frame_symbols.specs.declared.recorder.Answer.{Answer}
use Rattle.frame_symbols.specs.Frames.{frame_script, first_pace}
use Rattle.frame_symbols.specs.Readings.{Writing}
use Rattle.frame_symbols.specs.Recorders.{answered_of}
use Rattle.range_coder.specs.declared.writer.Writer.{Writer}
use Rattle.range_coder.specs.Codes.{told, IsCode}
use Rattle.range_coder.specs.declared.sender.Finish.{Finish}
use Rattle.range_coder.specs.declared.sender.Finish.TheVariants.{Whole, Overrun}
use Rattle.range_coder.specs.Writers.{writer_calls, writer_pace, HasCoded, IsWhole, IsOverrun, IsFinished}
use Rattle.range_coder.proofs.Finishing.{same_pace}
use Rattle.celt_encode.specs.declared.choice.Choice.{Choice}
use Rattle.celt_encode.specs.declared.choice.Hush.{Hush}
use Rattle.celt_encode.specs.Choices.{choose, nearest_of}
use Rattle.celt_encode.specs.Choosers.{choice_calls, hush_calls, standing_of}
use Rattle.celt_encode.specs.Codes.{code_of}
use Rattle.celt_encode.specs.Frames.{choice_of, chosen_list, silence_list, kept_of, fell_of, frame_of}
use Rattle.celt_encode.specs.Outsets.{Outset}
use Rattle.celt_encode.specs.Standing.{noted, begun}
use Rattle.celt_encode.specs.Wanted.{wanted}
use Rattle.celt_encode.proofs.ChoiceLemmas.{walked_choice}
use Rattle.celt_encode.proofs.CodeSteps.{code_is}

-- a writer that began anew is at the first pace
pace_is : (w : Writer) → HasCoded w [] → writer_pace w ≡ first_pace
unfolding interval_of
pace_is w new = same_pace w.room.now w.sender (interval_of []) new.matches

-- ---- the choice

pub choice_list : (f : Outset) (kind : Kind) (len : ℕ) (list : List Answer) (fields : Fields) (h k : Choice)
    → kind ≡ f.kind
    → len ≡ f.len
    → standing_of h ≡ begun f
    → Writing choice_calls kind len list fields h k
    → answered_of list ≡ chosen_list f
unfolding chosen_list choice_of
choice_list f kind len list fields h k kinds lens start w =
    let e =
    walked_choice {coder = writer_calls} {chooser = choice_calls} standing_of noted wanted
    (λ h k at x. x)
    (λ h k at question number x. x.same)
    (λ h k at question number x. x.is_wanted)
    (λ h k at question answer x. x)
    (λ c d question number answer x. x.nearest) w.walked.walked in
    w.walked.list_is
    ∙ ap (λ chosen. answered_in chosen.events) e
    ∙ ap (λ pace. answered_in (choose noted wanted (standing_of h) (frame_script kind len) pace).events) (pace_is w.before w.begun)
    ∙ ap (λ s. answered_in (choose noted wanted s (frame_script kind len) first_pace).events) start
    ∙ ap (λ kind. answered_in (choose noted wanted (begun f) (frame_script kind len) first_pace).events) kinds
    ∙ ap (λ len. answered_in (choose noted wanted (begun f) (frame_script f.kind len) first_pace).events) lens

-- ---- the silent frame

abbrev pub hushed : ⊤ → Event → ⊤
hushed known event = known

abbrev pub always_one : ⊤ → Place → ℤ
always_one known at = pos 1

pub hush_choice : (kind : Kind) (len : ℕ) → answered_in (choose hushed always_one tt (frame_script kind len) first_pace).events ≡ silence_list
unfolding frame_script asks_bit asks_at is_one nearest_of greatest meant silence_list
hush_choice kind len = refl

pub silent_list : (kind : Kind) (len : ℕ) (list : List Answer) (fields : Fields) (h k : Hush)
    → Writing hush_calls kind len list fields h k
    → answered_of list ≡ silence_list
silent_list kind len list fields h k w =
    let e =
    walked_choice {coder = writer_calls} {chooser = hush_calls} (λ h. tt) hushed always_one
    (λ h k at x. refl)
    (λ h k at question number x. refl)
    (λ h k at question number x. x)
    (λ h k at question answer x. refl)
    (λ c d question number answer x. x.nearest) w.walked.walked in
    w.walked.list_is
    ∙ ap (λ chosen. answered_in chosen.events) e
    ∙ ap (λ pace. answered_in (choose hushed always_one tt (frame_script kind len) pace).events) (pace_is w.before w.begun)
    ∙ hush_choice kind len

abbrev silence_interval : Interval
silence_interval = record { low = 2 ^ 39 - 2 ^ 24; width = 2 ^ 24; shift = 8; raw = 0; bits = 0 }

interval_is : interval_of silence_list ≡ silence_interval
unfolding silence_list interval_of after_answer narrowed grown after
interval_is = refl

pub silence_told : told silence_list ≡ 16
unfolding tell_of count_leading_zeros
silence_told = ap (λ i. tell_of (pace_of i)) interval_is ∙ refl

-- ---- what is kept

pub kept_whole : (f : Outset) → told (chosen_list f) ≤ 8 * f.len → chosen_list f ≡ kept_of f
unfolding kept_of
kept_whole f fits = sym (cond-true (nat_le (told (chosen_list f)) (8 * f.len)) (chosen_list f) silence_list (le-leb (told (chosen_list f)) (8 * f.len) fits))

pub fell_whole : (f : Outset) → told (chosen_list f) ≤ 8 * f.len → None ≡ fell_of f
unfolding fell_of
fell_whole f fits = sym (cond-true (nat_le (told (chosen_list f)) (8 * f.len)) None (Some (told (chosen_list f))) (le-leb (told (chosen_list f)) (8 * f.len) fits))

pub kept_over : (f : Outset) → 8 * f.len < told (chosen_list f) → silence_list ≡ kept_of f
unfolding kept_of
kept_over f over = sym (cond-false (nat_le (told (chosen_list f)) (8 * f.len)) (chosen_list f) silence_list (lt-leb (told (chosen_list f)) (8 * f.len) over))

pub fell_over : (f : Outset) → 8 * f.len < told (chosen_list f) → Some (told (chosen_list f)) ≡ fell_of f
unfolding fell_of
fell_over f over = sym (cond-false (nat_le (told (chosen_list f)) (8 * f.len)) None (Some (told (chosen_list f))) (lt-leb (told (chosen_list f)) (8 * f.len) over))

-- ---- the rooms

-- what the silent frame leaves in a room of two bytes or more
pub record IsSilent (room : List ℕ) (list : List Answered) (finish : Finish) : Type 0 where
  pub range : ℕ
  pub whole_is : finish ≡ Whole range
  pub code : IsCode list (length room) room

pub silent_room : (room : List ℕ) (list : List Answered) (finish : Finish) → list ≡ silence_list → 2 ≤ length room → IsFinished room list finish
    → IsSilent room list finish
silent_room room list (Whole range) same least is = record { range = range; whole_is = refl; code = is.code }
silent_room room list (Overrun tell) same least is =
    let e : told list ≡ 16 = ap told same ∙ silence_told in
    let more = is.more in
    let tells = is.tell_is in
    absurd (omega (arith, e, more, tells))

-- a choice that fits
pub record IsKept (f : Outset) (room : List ℕ) (list : List Answered) : Type 0 where
  pub kept : list ≡ kept_of f
  pub fell : None ≡ fell_of f
  pub bytes : room ≡ frame_of f

pub whole_room : (f : Outset) (room : List ℕ) (list : List Answered) (range : ℕ) → list ≡ chosen_list f → length room ≡ f.len
    → IsWhole room list range
    → IsKept f room list
unfolding frame_of
whole_room f room list range same size is =
    let fits : told (chosen_list f) ≤ 8 * f.len = let h = is.code.fits in let e = ap told same in omega (arith, h, e, size) in
    let kept : list ≡ kept_of f = same ∙ kept_whole f fits in
    record {
      kept = kept;
      fell = fell_whole f fits;
      bytes = code_is list (length room) room is.code ∙ ap (λ l. code_of l (length room)) kept ∙ ap (code_of (kept_of f)) size;
    }

-- one that does not
pub record IsReplaced (f : Outset) (tell : ℕ) : Type 0 where
  pub kept : silence_list ≡ kept_of f
  pub fell : Some tell ≡ fell_of f
  pub bytes : code_of silence_list f.len ≡ frame_of f

pub overrun_room : (f : Outset) (room : List ℕ) (list : List Answered) (tell : ℕ) → list ≡ chosen_list f → length room ≡ f.len
    → IsOverrun room list tell
    → IsReplaced f tell
unfolding frame_of
overrun_room f room list tell same size is =
    let tells : tell ≡ told (chosen_list f) = is.tell_is ∙ ap told same in
    let over : 8 * f.len < told (chosen_list f) = let more = is.more in omega (arith, more, tells, size) in
    let kept = kept_over f over in
    record { kept = kept; fell = ap Some tells ∙ fell_over f over; bytes = ap (λ l. code_of l f.len) kept }
