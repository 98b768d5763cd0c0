-- The encoder as a maker of frames.
use Rattle.std.proofs.Common.{◌≡◌, ℕ, ℤ, ◌+◌, ◌*◌, ◌^◌, refl, sym, subst, ap, ◌∙◌, List, [], ◌∷◌, length, true, Option, Some, is_some}
use Rattle.celt_base.specs.declared.kind.Kind.{Kind}
use Rattle.celt_base.specs.declared.state.Setting.{Setting}
use Rattle.celt_base.specs.Questions.{interval_of}
use Rattle.frame_symbols.specs.declared.symbols.Symbols.{Symbols}
use Rattle.frame_symbols.specs.HeldSymbols.{AreOf, AreRead, answers_in}
use Rattle.frame_symbols.specs.Readings.{IsReading}
use Rattle.frame_symbols.proofs.ReadingSteps.{computed_list, computed_holds}
use Rattle.celt_analysis.specs.Analyses.{Analysis, analysis_of, analysed, found}
use Rattle.celt_encode.specs.Encoders.{EncoderState, new_encoder, encoded, kept, after_frame}
use Rattle.celt_session.specs.Frames.{kind_of}
use Rattle.celt_session.specs.EncodedFrames.{Footing, first_footing, pitch_of, analysis_by, encoder_by, footing_after, frame_by}
use Rattle.celt_cli.specs.EncodingMakers.{is_replaced_by}
use Rattle.celt_cli.specs.Makers.{gen_kind, gen_bytes}

-- symbols that are those of a frame of this length, and of its reading, are read of it
pub symbols_read : (kind : Kind) (frame : List ℕ) (len : ℕ) (s : Symbols) → length frame ≡ len → AreOf kind len s → IsReading kind frame (answers_in s) → AreRead kind frame s
symbols_read kind frame len s e are reading =
    let of_frame : AreOf kind (length frame) s = subst (λ n. AreOf kind n s) (sym e) are in
    let list = computed_list kind frame (answers_in s) reading in
    record {
      reading = reading;
      are = of_frame;
      list_is = sym list;
      holds = computed_holds kind frame (answers_in s) s.fields reading of_frame.fields;
      range_is = of_frame.range_is ∙ ap (λ l. (interval_of l).width) (sym list);
    }

-- the symbols of a frame whose kind is known by another name
pub kept_read : (kind : Kind) (frame : List ℕ) (len : ℕ) (s : Symbols) → kind ≡ gen_kind → length frame ≡ len → AreOf kind len s → IsReading kind frame (answers_in s) → AreRead gen_kind frame s
kept_read kind frame len s k e are reading = subst (λ (n : Kind). AreRead n frame s) k (symbols_read kind frame len s e are reading)

gen_window : gen_kind.channels * (1145 + 120 * 2 ^ gen_kind.lm) ≡ 4210
unfolding kind_of
gen_window = refl

-- the samples of a window
pub window_is : (kind : Kind) (n : ℕ) → kind ≡ gen_kind → n ≡ 4210 → n ≡ kind.channels * (1145 + 120 * 2 ^ kind.lm)
window_is kind n k e = e ∙ sym (ap (λ (x : Kind). x.channels * (1145 + 120 * 2 ^ x.lm)) k ∙ gen_window)

-- ---- A FRAME

-- before the first
pub new_kind : (kind : Kind) → (new_encoder kind).kind ≡ kind
unfolding new_encoder
new_kind kind = refl

pub new_shared : (kind : Kind) → (new_encoder kind).shared ≡ first_footing.shared
unfolding new_encoder
new_shared kind = refl

pub new_made : (kind : Kind) → (new_encoder kind).made ≡ first_footing.made
unfolding new_encoder
new_made kind = refl

-- what an encoder is, but for the tell of its last frame
abbrev state_with : Footing → Option ℕ → EncoderState
state_with s fell = record { kind = gen_kind; shared = s.shared; made = s.made; fell = fell }

state_is : (e : EncoderState) (s : Footing) → e.kind ≡ gen_kind → e.shared ≡ s.shared → e.made ≡ s.made → e ≡ state_with s e.fell
state_is e s k h m = λ i. record { kind = k i; shared = h i; made = m i; fell = e.fell }

any_fell : (s : Footing) (fell : Option ℕ) (a : Analysis) (len : ℕ) → encoded (state_with s fell) a len ≡ encoded (encoder_by s gen_kind) a len
unfolding encoded
any_fell s fell a len = refl

any_fell_after : (s : Footing) (fell : Option ℕ) (a : Analysis) (len : ℕ) → after_frame (state_with s fell) a len ≡ after_frame (encoder_by s gen_kind) a len
unfolding after_frame kept
any_fell_after s fell a len = refl

pub encoded_is : (e : EncoderState) (s : Footing) (a : Analysis) (len : ℕ) → e.kind ≡ gen_kind → e.shared ≡ s.shared → e.made ≡ s.made → encoded e a len ≡ encoded (encoder_by s gen_kind) a len
encoded_is e s a len k h m = ap (λ (x : EncoderState). encoded x a len) (state_is e s k h m) ∙ any_fell s e.fell a len

pub after_is : (e : EncoderState) (s : Footing) (a : Analysis) (len : ℕ) → e.kind ≡ gen_kind → e.shared ≡ s.shared → e.made ≡ s.made → after_frame e a len ≡ after_frame (encoder_by s gen_kind) a len
after_is e s a len k h m = ap (λ (x : EncoderState). after_frame x a len) (state_is e s k h m) ∙ any_fell_after s e.fell a len

-- an analysis is of the kind that was asked for
pub kind_kept : (kind : Kind) (settings : List Setting) (window : List ℤ) → (analysis_of kind settings window).kind ≡ Some kind
unfolding analysis_of analysed found
kind_kept kind settings window = refl

pub frame_is : (s : Footing) (window : List ℤ) → encoded (encoder_by s gen_kind) (analysis_by s gen_kind window) gen_bytes ≡ frame_by s gen_kind gen_bytes window
unfolding frame_by
frame_is s window = refl

made_true : (e : EncoderState) (a : Analysis) (len : ℕ) → (after_frame e a len).made ≡ true
unfolding after_frame
made_true e a len = refl

pub footing_is : (s : Footing) (window : List ℤ) (now : EncoderState) (earlier last : Setting) → now ≡ after_frame (encoder_by s gen_kind) (analysis_by s gen_kind window) gen_bytes → earlier ≡ s.last → last ≡ pitch_of gen_kind window
    → (now.shared ≡ (footing_after s gen_kind gen_bytes window).shared) × (now.made ≡ (footing_after s gen_kind gen_bytes window).made)
    × (earlier ≡ (footing_after s gen_kind gen_bytes window).earlier) × (last ≡ (footing_after s gen_kind gen_bytes window).last)
unfolding footing_after
footing_is s window now earlier last n e l =
    (ap (λ (x : EncoderState). x.shared) n, ap (λ (x : EncoderState). x.made) n ∙ made_true (encoder_by s gen_kind) (analysis_by s gen_kind window) gen_bytes, e, l)

pub replaced_is : (s : Footing) (window : List ℤ) (now : EncoderState) → now ≡ after_frame (encoder_by s gen_kind) (analysis_by s gen_kind window) gen_bytes → is_some now.fell ≡ is_replaced_by s window
unfolding is_replaced_by
replaced_is s window now n = ap (λ (x : EncoderState). is_some x.fell) n

-- the analysis of a window, with the settings that were kept
pub analysis_is : (s : Footing) (kind : Kind) (window : List ℤ) (earlier last now : Setting) (a : Analysis) → kind ≡ gen_kind → earlier ≡ s.earlier → last ≡ s.last → now ≡ pitch_of gen_kind window
    → a ≡ analysis_of kind (earlier ∷ last ∷ now ∷ []) window → a ≡ analysis_by s gen_kind window
analysis_is s kind window earlier last now a k e l n is =
    is ∙ ap (λ (x : Kind). analysis_of x (earlier ∷ last ∷ now ∷ []) window) k ∙ ap (λ x. analysis_of gen_kind (x ∷ last ∷ now ∷ []) window) e
    ∙ ap (λ x. analysis_of gen_kind (s.earlier ∷ x ∷ now ∷ []) window) l ∙ ap (λ x. analysis_of gen_kind (s.earlier ∷ s.last ∷ x ∷ []) window) n
