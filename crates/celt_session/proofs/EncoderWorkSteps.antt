-- An encoder goes over a batch as the frames of its windows do.
use Rattle.std.proofs.Common.{◌≡◌, ℕ, zero, suc, ◌+◌, ◌<◌, ◌≤◌, not, ℤ, List, [], ◌∷◌, ◌++◌, ◌-◌, ◌*◌, length, take, slice_set, refl, sym, ap, subst, ◌∙◌, arith}
use Rattle.std.specs.Prelude.{slice_index_or, Some}
use Rattle.std.specs.List.{concat}
use borrow.Rule.Slice.PartMut.{put_mid}
use Rattle.celt_analysis.specs.declared.batch.WindowSlot.{WindowSlot}
use Rattle.std.proofs.Common.{length-append}
use Rattle.std.proofs.lemmas.List.Elements.{All-push}
use Rattle.std.proofs.Math.Seq.{take-append_seam}
use Rattle.celt_analysis.specs.Batches.{AreWindows, IsWindow}
use Rattle.celt_analysis.specs.Signals.{window_size}
use Rattle.celt_session.proofs.SlotSteps.{set_all, set_more}
use Rattle.celt_session.proofs.Rows.{made_none, made_more}
use Rattle.celt_base.specs.declared.kind.Kind.{Kind}
use Rattle.celt_analysis.specs.Analyses.{Analysis, analysed, analysis_of, found}
use Rattle.celt_encode.specs.Encoders.{EncoderState, outset_by, outset_for, encoded, kept, after_frame}
use Rattle.celt_encode.specs.Frames.{frame_of, kept_of}
use Rattle.celt_synth.specs.Readings.{share_by}
use Rattle.celt_synth.specs.Rows.{greater}
use Rattle.celt_session.specs.declared.hearing.Trail.{Trail}
use Rattle.celt_session.specs.EncodedFrames.{Footing, analysis_by, encoder_by, footing_after, frame_by, encoded_frames, pitch_of}
use Rattle.celt_session.specs.EncoderWorks.{encoder_after, AreRooms, IsOn}
use Rattle.celt_session.specs.FrameFunctions.{Row, state_before, frame_at, frames_from}
use Rattle.celt_session.specs.Hearings.{window_at, trail_by, pitches_of, heard_at}

-- ---- one frame

outset_same : {kind : Kind} {e : EncoderState} {s : Footing} (a : Analysis) (n : ℕ) → IsOn kind e s → outset_for e a n ≡ outset_for (encoder_by s kind) a n
outset_same {kind = kind} {e = e} {s = s} a n on =
    ap (λ k. outset_by k n (not e.made) (greater k.channels e.shared.energies) a) on.kind_is
    ∙ ap (λ m. outset_by kind n (not m) (greater kind.channels e.shared.energies) a) on.made
    ∙ ap (λ h. outset_by kind n (not s.made) (greater kind.channels h.energies) a) on.shared

kept_same : {kind : Kind} {e : EncoderState} {s : Footing} (a : Analysis) (n : ℕ) → IsOn kind e s → kept e a n ≡ kept (encoder_by s kind) a n
unfolding kept
kept_same a n on = ap kept_of (outset_same a n on)

encoded_same : {kind : Kind} {e : EncoderState} {s : Footing} (a : Analysis) (n : ℕ) → IsOn kind e s → encoded e a n ≡ encoded (encoder_by s kind) a n
unfolding encoded
encoded_same a n on = ap frame_of (outset_same a n on)

on_next : (kind : Kind) (e : EncoderState) (s : Footing) (a : Analysis) (n : ℕ) (window : List ℤ) → IsOn kind e s → a ≡ analysis_by s kind window
    → IsOn kind (after_frame e a n) (footing_after s kind n window)
unfolding after_frame footing_after
on_next kind e s a n window on heard = record {
  kind_is = on.kind_is;
  shared =
      ap (λ l. share_by e.kind n l e.shared) (kept_same a n on)
      ∙ ap (λ k. share_by k n (kept (encoder_by s kind) a n) e.shared) on.kind_is
      ∙ ap (λ h. share_by kind n (kept (encoder_by s kind) a n) h) on.shared
      ∙ ap (λ b. share_by kind n (kept (encoder_by s kind) b n) s.shared) heard;
  made = refl;
}

-- ---- the frames of a row

-- Each analysis is that of the row's window, where the row stands.
abbrev pub Hears : Row encoded_frames → (ℕ → Analysis) → ℕ → Type 0
Hears row analyses count = (k : ℕ) → k < count → analyses k ≡ analysis_by (state_before encoded_frames row k) row.kind (row.window k)

pub on_after : (row : Row encoded_frames) (e : EncoderState) (analyses : ℕ → Analysis) (bytes count : ℕ) → ((k : ℕ) → row.bytes k ≡ bytes)
    → IsOn row.kind e row.from
    → Hears row analyses count
    → (k : ℕ) → k ≤ count
    → IsOn row.kind (encoder_after e analyses bytes k) (state_before encoded_frames row k)
unfolding encoder_after state_before
on_after row e analyses bytes count lengths on hears zero le = on
on_after row e analyses bytes count lengths on hears (suc k) le =
    let before = on_after row e analyses bytes count lengths on hears k (omega arith) in
    let next = on_next row.kind (encoder_after e analyses bytes k) (state_before encoded_frames row k) (analyses k) bytes (row.window k) before (hears k (omega arith)) in
    subst (λ b. IsOn row.kind (after_frame (encoder_after e analyses bytes k) (analyses k) bytes) (footing_after (state_before encoded_frames row k) row.kind b (row.window k)))
    (sym (lengths k)) next

pub frame_same : (row : Row encoded_frames) (e : EncoderState) (analyses : ℕ → Analysis) (bytes count : ℕ) → ((k : ℕ) → row.bytes k ≡ bytes)
    → IsOn row.kind e row.from
    → Hears row analyses count
    → (k : ℕ) → k < count
    → encoded (encoder_after e analyses bytes k) (analyses k) bytes ≡ frame_at encoded_frames row k
unfolding frame_by
frame_same row e analyses bytes count lengths on hears k less =
    let before = on_after row e analyses bytes count lengths on hears k (omega arith) in
    let s = state_before encoded_frames row k in
    encoded_same (analyses k) bytes before
    ∙ ap (λ a. encoded (encoder_by s row.kind) a bytes) (hears k less)
    ∙ ap (λ b. encoded (encoder_by s row.kind) (analysis_by s row.kind (row.window k)) b) (sym (lengths k))

frames_alike : (one other : ℕ → List ℕ) (count : ℕ) → ((k : ℕ) → k < count → one k ≡ other k) → frames_from one 0 count ≡ frames_from other 0 count
unfolding frames_from
frames_alike one other zero same = refl
frames_alike one other (suc count) same =
    ap (λ l. l ++ one (0 + count) ∷ []) (frames_alike one other count (λ k less. same k (omega arith)))
    ∙ ap (λ x. frames_from other 0 count ++ x ∷ []) (same (0 + count) (omega arith))

pub frames_same : (row : Row encoded_frames) (e : EncoderState) (analyses : ℕ → Analysis) (bytes count : ℕ) → ((k : ℕ) → row.bytes k ≡ bytes)
    → IsOn row.kind e row.from
    → Hears row analyses count
    → frames_from (λ k. encoded (encoder_after e analyses bytes k) (analyses k) bytes) 0 count ≡ frames_from (frame_at encoded_frames row) 0 count
frames_same row e analyses bytes count lengths on hears =
    frames_alike (λ k. encoded (encoder_after e analyses bytes k) (analyses k) bytes) (frame_at encoded_frames row) count (frame_same row e analyses bytes count lengths on hears)

-- ---- the settings

-- the settings that are passed on are those of the frames before
pub record Follows (t : Trail) (s : Footing) : Type 0 where
  pub earlier : t.earlier ≡ s.earlier
  pub last : t.last ≡ s.last

pub trail_follows : (row : Row encoded_frames) (t : Trail) → Follows t row.from → (k : ℕ)
    → Follows (trail_by (pitches_of row.kind row.window) t k) (state_before encoded_frames row k)
unfolding trail_by state_before footing_after
trail_follows row t follows zero = follows
trail_follows row t follows (suc k) = record { earlier = (trail_follows row t follows k).last; last = refl }

pub hears_row : (row : Row encoded_frames) (t : Trail) (count : ℕ) → Follows t row.from → Hears row (heard_at row.kind row.window t) count
hears_row row t count follows k less =
    let f = trail_follows row t follows k in
    let own = pitch_of row.kind (row.window k) in
    let s = state_before encoded_frames row k in
    let now = trail_by (pitches_of row.kind row.window) t k in
    ap (λ e. analysis_of row.kind (e ∷ now.last ∷ own ∷ []) (row.window k)) f.earlier
    ∙ ap (λ l. analysis_of row.kind (s.earlier ∷ l ∷ own ∷ []) (row.window k)) f.last

-- ---- encoding slots

-- the slots hold these analyses
abbrev pub HoldAnalyses : (ℕ → Analysis) → List WindowSlot → Type 0
HoldAnalyses analyses slots = (k : ℕ) (d : WindowSlot) → k < length slots → (slice_index_or slots k d).analysis ≡ analyses k

abbrev pub frame_of_slots : EncoderState → (ℕ → Analysis) → ℕ → ℕ → List ℕ
frame_of_slots e analyses bytes k = encoded (encoder_after e analyses bytes k) (analyses k) bytes

-- where a loop over slots stands
pub record Encoding (first now : EncoderState) (slots : List WindowSlot) (bytes made : ℕ) (out : List ℕ) : Type 0 where
  pub few : made ≤ length slots
  pub kind : now.kind ≡ first.kind
  pub encoder : (analyses : ℕ → Analysis) → HoldAnalyses analyses slots → now ≡ encoder_after first analyses bytes made
  pub frames : (analyses : ℕ → Analysis) → HoldAnalyses analyses slots
      → take (made * bytes) out ≡ concat (frames_from (frame_of_slots first analyses bytes) 0 made)

pub encoding_none : (e : EncoderState) (slots : List WindowSlot) (bytes : ℕ) (out : List ℕ) → Encoding e e slots bytes 0 out
unfolding encoder_after
encoding_none e slots bytes out = record {
  few = omega arith;
  kind = refl;
  encoder = λ analyses hold. refl;
  frames = λ analyses hold. made_none (frame_of_slots e analyses bytes) bytes out;
}

pub encoding_more : (first now next : EncoderState) (slots : List WindowSlot) (bytes made : ℕ) (out room : List ℕ) (d : WindowSlot) → made < length slots
    → length slots * bytes ≤ length out
    → length room ≡ bytes
    → next ≡ after_frame now (slice_index_or slots made d).analysis bytes
    → next.kind ≡ now.kind
    → room ≡ encoded now (slice_index_or slots made d).analysis bytes
    → Encoding first now slots bytes made out
    → Encoding first next slots bytes (made + 1) (put_mid (made * bytes) (made * bytes + bytes - made * bytes) out room)
unfolding encoder_after
encoding_more first now next slots bytes made out room d less within size after kinds coded e = record {
  few = omega arith;
  kind = kinds ∙ e.kind;
  encoder = λ analyses hold.
      after ∙ ap (λ a. after_frame now a bytes) (hold made d less) ∙ ap (λ s. after_frame s (analyses made) bytes) (e.encoder analyses hold)
      ∙ let n : suc made ≡ made + 1 = omega arith in ap (encoder_after first analyses bytes) n;
  frames = λ analyses hold.
      made_more (frame_of_slots first analyses bytes) 0 bytes made (length slots) out room (e.frames analyses hold) less within size
      (coded ∙ ap (λ a. encoded now a bytes) (hold made d less) ∙ ap (λ s. encoded s (analyses made) bytes) (e.encoder analyses hold)
      ∙ let z : made ≡ 0 + made = omega arith in ap (frame_of_slots first analyses bytes) z);
}

-- ---- slots that are made

pub record Emptied (kind : Kind) (slots : List WindowSlot) (i : ℕ) : Type 0 where
  pub count : length slots ≡ i
  pub windows : AreWindows kind slots

pub emptied_more : (kind : Kind) (slots : List WindowSlot) (slot : WindowSlot) (i : ℕ) → IsWindow kind slot → Emptied kind slots i → Emptied kind (slots ++ slot ∷ []) (i + 1)
emptied_more kind slots slot i is e = record {
  count = let l = length-append slots (slot ∷ []) in let c = e.count in omega (arith, l, c);
  windows = All-push (IsWindow kind) slots slot e.windows is;
}

-- ---- a batch

heard_kind : (kind : Kind) (windows : ℕ → List ℤ) (t : Trail) (k : ℕ) → (heard_at kind windows t k).kind ≡ Some kind
unfolding analysis_of analysed found
heard_kind kind windows t k = refl

pub heard_kinds : (kind : Kind) (windows : ℕ → List ℤ) (t : Trail) (slots : List WindowSlot) (e : EncoderState) → e.kind ≡ kind → HoldAnalyses (heard_at kind windows t) slots
    → (k : ℕ) (d : WindowSlot) → k < length slots → (slice_index_or slots k d).analysis.kind ≡ Some e.kind
heard_kinds kind windows t slots e kinds hold k d less = ap (λ a. a.kind) (hold k d less) ∙ heard_kind kind windows t k ∙ ap Some (sym kinds)

-- what a batch leaves, where the encoder stood on a row's first state and the settings were those of the frames before
pub record Left (row : Row encoded_frames) (e : EncoderState) (t : Trail) (count : ℕ) (frames : List ℕ) : Type 0 where
  pub on : IsOn row.kind e (state_before encoded_frames row count)
  pub follows : Follows t (state_before encoded_frames row count)
  pub frames_are : frames ≡ concat (frames_from (frame_at encoded_frames row) 0 count)

pub batch_left : (row : Row encoded_frames) (bytes count : ℕ) (e next : EncoderState) (t passed : Trail) (frames : List ℕ) → ((k : ℕ) → row.bytes k ≡ bytes)
    → IsOn row.kind e row.from
    → Follows t row.from
    → passed ≡ trail_by (pitches_of row.kind row.window) t count
    → next ≡ encoder_after e (heard_at row.kind row.window t) bytes count
    → frames ≡ concat (frames_from (frame_of_slots e (heard_at row.kind row.window t) bytes) 0 count)
    → Left row next passed count frames
batch_left row bytes count e next t passed frames lengths on follows passes encodes framed =
    let hears = hears_row row t count follows in
    record {
      on = subst (λ s. IsOn row.kind s (state_before encoded_frames row count)) (sym encodes) (on_after row e (heard_at row.kind row.window t) bytes count lengths on hears count (omega arith));
      follows = subst (λ p. Follows p (state_before encoded_frames row count)) (sym passes) (trail_follows row t follows count);
      frames_are = framed ∙ ap concat (frames_same row e (heard_at row.kind row.window t) bytes count lengths on hears);
    }

-- the frames of a batch's windows, of a kind
abbrev pub row_at : Footing → List ℤ → ℕ → Kind → Row encoded_frames
row_at s samples bytes kind = record { kind = kind; from = s; window = window_at kind samples; bytes = λ t. bytes }

-- what is left of the slots of a room is what was put there
pub all_left : {A : Type 0} (new rest : List A) (len : ℕ) → length new ≡ len → take len (new ++ rest) ≡ new
all_left new rest len same = ap (λ n. take n (new ++ rest)) (sym same) ∙ take-append_seam new rest

-- ---- windows that are shortened

pub record Shortened (kind : Kind) (slots : List WindowSlot) (k : ℕ) : Type 0 where
  pub rooms : AreRooms kind slots
  pub done : (j : ℕ) (d : WindowSlot) → j < k → IsWindow kind (slice_index_or slots j d)

pub shortened_none : (kind : Kind) (slots : List WindowSlot) → AreRooms kind slots → Shortened kind slots 0
shortened_none kind slots rooms = record { rooms = rooms; done = λ j d below. absurd (omega arith) }

pub shortened_more : (kind : Kind) (slots : List WindowSlot) (k : ℕ) (slot : WindowSlot) → k < length slots → IsWindow kind slot → Shortened kind slots k
    → Shortened kind (slice_set slots k slot) (k + 1)
shortened_more kind slots k slot less is s = record {
  rooms = set_all (λ j x. window_size kind ≤ length x.window.items) slots k slot less s.rooms (omega (arith, is));
  done = set_more (λ j x. IsWindow kind x) slots k slot less s.done is;
}
