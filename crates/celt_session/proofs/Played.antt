-- The frame step by which a frame is played, and frames that are played one after the other.
use Rattle.std.proofs.Common.{◌≡◌, ℕ, ℤ, ◌-◌, ◌*◌, ◌%◌, ◌^◌, ◌<◌, ◌≤◌, ◌⊎◌, inl, inr, Bool, List, [], ◌∷◌, ◌++◌, length, sym, ◌∙◌, ap, subst, arith, unsigned_abs, w32, Option}
use Rattle.std.specs.Prelude.{if◌then◌else◌}
use Rattle.std.specs.List.{slice_range}
use Rattle.std.specs.Io.KnownBytes.{Appends}
use mir.Val.{to_z, of_z}
use Rattle.std.proofs.Math.Facts.{to_z-of_z}
use Rattle.std.proofs.Math.Nat.{pow-le-pow_right}
use Rattle.std.proofs.lemmas.Int.{ints, fits_signed_from_abs}
use Rattle.std.proofs.lemmas.Bool.{lt-ltb, le-ltb}
use Rattle.celt_base.specs.declared.kind.Kind.{Kind}
use Rattle.celt_base.specs.Outside.{AppendsFront}
use Rattle.wav_edge.specs.Samples.{bytes_of}
use Rattle.frame_symbols.specs.Readings.{reading_of, range_of}
use Rattle.opus_stream.specs.declared.answers.Span.{Span}
use Rattle.celt_synth.specs.Decoders.{Decoder, with_state}
use Rattle.celt_synth.specs.Readings.{frame_step, heard_of, shaped_of}
use Rattle.celt_synth.specs.States.{State}
use Rattle.celt_synth.specs.Steps.{step, conceal}
use Rattle.celt_session.specs.declared.playing.Playing.{Playing}
use Rattle.celt_session.specs.Frames.{Frame, framed}
use Rattle.celt_session.specs.Samples.{Target, Sounds, text_of}
use Rattle.celt_session.specs.Playing.{decoder_step, played_by, target_for, IsPlaying}
use Rattle.celt_session.proofs.Cutting.{behind_is}
use Rattle.celt_session.proofs.Sounding.{sounds_one, sounds_more, front_one, front_more}

-- ---- one frame

pub short_step : (stream : ℕ) (invert : Bool) (kind : Kind) (frame : List ℕ) (gain : ℤ) (s : State) → length frame < 2 → frame_step stream invert kind frame gain s ≡ conceal stream kind gain s
unfolding frame_step
short_step stream invert kind frame gain s h =
    ap (λ b. if b then conceal stream kind gain s else step stream kind (heard_of kind (range_of kind frame) (reading_of kind frame).value) (shaped_of kind (reading_of kind frame).value invert) gain s) (lt-ltb (length frame) 2 h)

pub long_step : (stream : ℕ) (invert : Bool) (kind : Kind) (frame : List ℕ) (gain : ℤ) (s : State) → 2 ≤ length frame
    → frame_step stream invert kind frame gain s ≡ step stream kind (heard_of kind (range_of kind frame) (reading_of kind frame).value) (shaped_of kind (reading_of kind frame).value invert) gain s
unfolding frame_step
long_step stream invert kind frame gain s h =
    ap (λ b. if b then conceal stream kind gain s else step stream kind (heard_of kind (range_of kind frame) (reading_of kind frame).value) (shaped_of kind (reading_of kind frame).value invert) gain s) (le-ltb (length frame) 2 h)

-- its size
frame_size : (lm : ℕ) → lm ≤ 3 → 120 * 2 ^ lm ≤ 960
frame_size lm h =
    let p : 2 ^ lm ≤ 2 ^ 3 = pow-le-pow_right {n = 2} (omega arith) h in
    omega arith

pub frame_count : (lm : ℕ) → lm ≤ 3 → 120 * 2 ^ lm % 18446744073709551616 ≡ 120 * 2 ^ lm
frame_count lm h = let most = frame_size lm h in omega arith

pub frame_room : (lm channels : ℕ) → lm ≤ 3 → (channels ≡ 1) ⊎ (channels ≡ 2) → 120 * 2 ^ lm % 18446744073709551616 * channels ≤ 1920
frame_room lm channels h (inl e) = let most = frame_size lm h in subst (λ c. 120 * 2 ^ lm % 18446744073709551616 * c ≤ 1920) (sym e) (omega arith)
frame_room lm channels h (inr e) = let most = frame_size lm h in subst (λ c. 120 * 2 ^ lm % 18446744073709551616 * c ≤ 1920) (sym e) (omega arith)

-- it was played: the decoder, its samples, and the span behind it
pub record IsFrame (d now : Decoder) (p : Playing) (kind : Kind) (frame : List ℕ) (out : List ℤ) : Type 0 where
  pub playing : IsPlaying d p
  pub now_is : now ≡ with_state d (played_by d kind frame p.gain).state
  pub out_is : out ≡ (played_by d kind frame p.gain).samples

module _ (d now : Decoder) (p : Playing) (kind : Kind) (frame : List ℕ) (out : List ℤ) (is : IsFrame d now p kind frame out) where
  abbrev given : List ℤ
  given = decoder_step.samples d.state (target_for d p) (framed kind frame)

  given_is : out ≡ given
  given_is = is.out_is ∙ ap (λ n. (frame_step n d.invert kind frame p.gain d.state).samples) is.playing.channels_are

  state_is : now.state ≡ decoder_step.after d.state (target_for d p) (framed kind frame)
  state_is = ap (λ (x : Decoder). x.state) is.now_is ∙ ap (λ n. (frame_step n d.invert kind frame p.gain d.state).state) is.playing.channels_are

  pub frame_sounds : (count : ℕ) (next : Span) (old new : Option (List ℕ)) → length out ≡ count * p.channels → next ≡ record { from = p.span.from - count; to = p.span.to - count }
      → Appends old new (bytes_of (slice_range out (p.channels * p.span.from) (p.channels * p.span.to)))
      → Sounds decoder_step d.state (target_for d p) (framed kind frame ∷ []) (p.channels * p.span.from) (p.channels * p.span.to) now.state (p.channels * next.from) (p.channels * next.to) old new
  frame_sounds count next old new len e a =
      let size : count * p.channels ≡ length given = sym len ∙ ap length given_is in
      sounds_one decoder_step d.state (target_for d p) (framed kind frame) (p.channels * p.span.from) (p.channels * p.span.to) now.state (p.channels * next.from) (p.channels * next.to) old new
      state_is
      (ap (λ (s : Span). p.channels * s.from) e ∙ behind_is p.channels p.span.from count is.playing.one_or_two ∙ ap (λ n. p.channels * p.span.from - n) size)
      (ap (λ (s : Span). p.channels * s.to) e ∙ behind_is p.channels p.span.to count is.playing.one_or_two ∙ ap (λ n. p.channels * p.span.to - n) size)
      (subst (λ l. Appends old new (bytes_of (slice_range l (p.channels * p.span.from) (p.channels * p.span.to)))) given_is a)

  pub frame_fails : (old new : Option (List ℕ)) → AppendsFront old new (bytes_of (slice_range out (p.channels * p.span.from) (p.channels * p.span.to)))
      → AppendsFront old new (text_of decoder_step d.state (target_for d p) (framed kind frame ∷ []) (p.channels * p.span.from) (p.channels * p.span.to))
  frame_fails old new a =
      front_one decoder_step d.state (target_for d p) (framed kind frame) (p.channels * p.span.from) (p.channels * p.span.to) old new
      (subst (λ l. AppendsFront old new (bytes_of (slice_range l (p.channels * p.span.from) (p.channels * p.span.to)))) given_is a)

-- ---- one after the other

pub same_on : (d mid now : Decoder) → mid ≡ with_state d mid.state → now ≡ with_state mid now.state → now ≡ with_state d now.state
same_on d mid now e f = f ∙ ap (λ (x : Decoder). with_state x now.state) e

-- the gain as it is held
abbrev pub gain_held : Playing → ℤ
gain_held p = to_z w32 (of_z w32 p.gain)

pub gain_is : (d : Decoder) (p : Playing) → IsPlaying d p → gain_held p ≡ p.gain
gain_is d p is = let h = is.gain in to_z-of_z {w = w32} {z = p.gain} (fits_signed_from_abs w32 p.gain (omega (arith, ints, h)))

-- the decoder that was played some frames plays on
pub plays_on : (d mid : Decoder) (p : Playing) (span : Span) → mid ≡ with_state d mid.state → IsPlaying d p → IsPlaying mid (record { channels = p.channels; gain = gain_held p; span = span })
plays_on d mid p span e is = record {
  channels_are = ap (λ (x : Decoder). x.channels) e ∙ is.channels_are;
  one_or_two = is.one_or_two;
  gain = subst (λ z. unsigned_abs z ≤ 32768) (sym (gain_is d p is)) is.gain;
}

abbrev pub target_by : Playing → ℤ → Bool → Target
target_by p gain invert = record { channels = p.channels; gain = gain; invert = invert }

pub goes_on : (d mid : Decoder) (now : State) (p : Playing) (span next : Span) (xs ys : List Frame) (old between new : Option (List ℕ)) → IsPlaying d p → mid ≡ with_state d mid.state
    → Sounds decoder_step d.state (target_for d p) xs (p.channels * p.span.from) (p.channels * p.span.to) mid.state (p.channels * span.from) (p.channels * span.to) old between
    → Sounds decoder_step mid.state (target_by p (gain_held p) mid.invert) ys (p.channels * span.from) (p.channels * span.to) now (p.channels * next.from) (p.channels * next.to) between new
    → Sounds decoder_step d.state (target_for d p) (xs ++ ys) (p.channels * p.span.from) (p.channels * p.span.to) now (p.channels * next.from) (p.channels * next.to) old new
goes_on d mid now p span next xs ys old between new is e a b =
    sounds_more decoder_step d.state (target_for d p) xs ys (p.channels * p.span.from) (p.channels * p.span.to) mid.state (p.channels * span.from) (p.channels * span.to) now (p.channels * next.from) (p.channels * next.to) old between new a
    (subst (λ i. Sounds decoder_step mid.state (target_by p p.gain i) ys (p.channels * span.from) (p.channels * span.to) now (p.channels * next.from) (p.channels * next.to) between new) (ap (λ (x : Decoder). x.invert) e)
    (subst (λ z. Sounds decoder_step mid.state (target_by p z mid.invert) ys (p.channels * span.from) (p.channels * span.to) now (p.channels * next.from) (p.channels * next.to) between new) (gain_is d p is) b))

pub fails_on : (d mid : Decoder) (p : Playing) (span : Span) (xs ys : List Frame) (old between new : Option (List ℕ)) → IsPlaying d p → mid ≡ with_state d mid.state
    → Sounds decoder_step d.state (target_for d p) xs (p.channels * p.span.from) (p.channels * p.span.to) mid.state (p.channels * span.from) (p.channels * span.to) old between
    → AppendsFront between new (text_of decoder_step mid.state (target_by p (gain_held p) mid.invert) ys (p.channels * span.from) (p.channels * span.to))
    → AppendsFront old new (text_of decoder_step d.state (target_for d p) (xs ++ ys) (p.channels * p.span.from) (p.channels * p.span.to))
fails_on d mid p span xs ys old between new is e a b =
    front_more decoder_step d.state (target_for d p) xs ys (p.channels * p.span.from) (p.channels * p.span.to) mid.state (p.channels * span.from) (p.channels * span.to) old between new a
    (subst (λ i. AppendsFront between new (text_of decoder_step mid.state (target_by p p.gain i) ys (p.channels * span.from) (p.channels * span.to))) (ap (λ (x : Decoder). x.invert) e)
    (subst (λ z. AppendsFront between new (text_of decoder_step mid.state (target_by p z mid.invert) ys (p.channels * span.from) (p.channels * span.to))) (gain_is d p is) b))
