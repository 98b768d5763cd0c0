-- The decoder keeps in step with the encoder of a stream.
use Rattle.std.proofs.Common.{◌≡◌, ℕ, zero, suc, ◌+◌, ◌≤◌, List, [], ◌∷◌, ◌++◌, length, map, refl, sym, ap, subst, ◌∙◌, arith}
use Rattle.std.specs.Prelude.{ℤ, ⊤}
use Rattle.celt_base.specs.declared.kind.Kind.{Kind}
use Rattle.celt_base.specs.Questions.{Answered}
use Rattle.frame_symbols.specs.Readings.{IsReading}
use Rattle.wav_edge.specs.Reading.{Outcome, outcome}
use Rattle.wav_edge.specs.Reading.Outcome.{Unfinished, Faulty, Started}
use Rattle.celt_synth.specs.Readings.{share_by}
use Rattle.celt_synth.specs.Shared.{SharedState, shared_of}
use Rattle.celt_synth.specs.States.{State, start}
use Rattle.celt_synth.proofs.FrameLemmas.{frame_shares}
use Rattle.celt_encode.specs.Encoders.{after_frame, kept}
use Rattle.celt_encode.proofs.ReadSteps.{frame_read}
use Rattle.celt_session.specs.declared.settings.Settings.{Settings}
use Rattle.celt_session.specs.Frames.{Frame, kind_of, framed}
use Rattle.celt_session.specs.FrameFunctions.{frames_from, state_before}
use Rattle.celt_session.specs.EncodedFrames.{Footing, encoded_frames, analysis_by, encoder_by, footing_after, frame_by, frame_length}
use Rattle.celt_session.specs.Encodings.{Audio, AreSettings, audio_of, row_of}
use Rattle.celt_session.specs.Lockstep.{kept_by, encoder_before, frame_of, kept_at, decoder_behind, InStep, InStepBy, AreInStep}
use Rattle.celt_session.specs.Playing.{decoder_step}
use Rattle.celt_session.specs.Samples.{Target, decoder_after}
use Rattle.celt_session.proofs.Sounding.{after-append}

-- each number of bytes is one that a frame may have
abbrev pub AllSizes : (ℕ → ℕ) → Type 0
AllSizes bytes = (t : ℕ) → 2 ≤ bytes t

-- ---- one frame

by_read : (s : Footing) (kind : Kind) (bytes : ℕ) (window : List ℤ) → 2 ≤ bytes
    → IsReading kind (frame_by s kind bytes window) (kept_by s kind bytes window)
unfolding frame_by kept_by
by_read s kind bytes window least = frame_read (encoder_by s kind) (analysis_by s kind window) bytes least

by_shared : (s : Footing) (kind : Kind) (bytes : ℕ) (window : List ℤ)
    → (footing_after s kind bytes window).shared ≡ share_by kind bytes (kept_by s kind bytes window) s.shared
unfolding footing_after after_frame kept_by
by_shared s kind bytes window = refl

-- a decoder that shared the state before the frame shares the one behind it
frame_shared : (target : Target) (d : State) (s : Footing) (kind : Kind) (bytes : ℕ) (window : List ℤ) → 2 ≤ bytes
    → shared_of d ≡ s.shared
    → shared_of (decoder_step.after d target (framed kind (frame_by s kind bytes window))) ≡ (footing_after s kind bytes window).shared
frame_shared target d s kind bytes window least same =
    let frame : List ℕ = frame_by s kind bytes window in
    let list : List Answered = kept_by s kind bytes window in
    let size : length frame ≡ bytes = frame_length s kind bytes window in
    frame_shares target.channels target.invert kind frame list target.gain d (omega (arith, size, least)) (by_read s kind bytes window least)
    ∙ ap (λ n. share_by kind n list (shared_of d)) size
    ∙ ap (share_by kind bytes list) same
    ∙ sym (by_shared s kind bytes window)

-- ---- frames in order

map_last : (kind : Kind) (frames : List (List ℕ)) (frame : List ℕ)
    → map (framed kind) (frames ++ frame ∷ []) ≡ map (framed kind) frames ++ framed kind frame ∷ []
map_last kind [] frame = refl
map_last kind (x ∷ frames) frame = ap (λ l. framed kind x ∷ l) (map_last kind frames frame)

frames_last : (frame : ℕ → List ℕ) (t : ℕ) → frames_from frame 0 (suc t) ≡ frames_from frame 0 t ++ frame t ∷ []
unfolding frames_from
frames_last frame t = let e : 0 + t ≡ t = omega arith in ap (λ n. frames_from frame 0 t ++ frame n ∷ []) e

behind_next : (target : Target) (a : Audio) (t : ℕ)
    → decoder_behind target a (suc t) ≡ decoder_step.after (decoder_behind target a t) target (framed (kind_of a.toc) (frame_of a t))
unfolding decoder_after
behind_next target a t =
    let kind : Kind = kind_of a.toc in
    let before : List (List ℕ) = frames_from (frame_of a) 0 t in
    ap (λ frames. decoder_after decoder_step start target (map (framed kind) frames)) (frames_last (frame_of a) t)
    ∙ ap (decoder_after decoder_step start target) (map_last kind before (frame_of a t))
    ∙ after-append decoder_step start target (map (framed kind) before) (framed kind (frame_of a t) ∷ [])

behind_shared : (target : Target) (a : Audio) (t : ℕ) → AllSizes a.bytes → shared_of (decoder_behind target a t) ≡ (encoder_before a t).shared
unfolding frames_from decoder_after state_before
behind_shared target a zero sizes = refl
behind_shared target a (suc t) sizes =
    ap shared_of (behind_next target a t)
    ∙ frame_shared target (decoder_behind target a t) (encoder_before a t) (kind_of a.toc) (a.bytes t) ((row_of encoded_frames a).window t)
    (sizes t) (behind_shared target a t sizes)

pub in_step : (a : Audio) (t : ℕ) → AllSizes a.bytes → InStep a t
in_step a t sizes =
    let before : Footing = encoder_before a t in
    let window : List ℤ = (row_of encoded_frames a).window t in
    let next : t + 1 ≡ suc t = omega arith in
    record {
      size = frame_length before (kind_of a.toc) (a.bytes t) window;
      reads = by_read before (kind_of a.toc) (a.bytes t) window (sizes t);
      shares = λ target. subst (λ n. shared_of (decoder_behind target a n) ≡ (encoder_before a n).shared) (sym next) (behind_shared target a (suc t) sizes);
    }

-- ---- the encoding of a file

in_step_by : (settings : Settings) (o : Outcome) (bytes : List ℕ) → AreSettings settings → InStepBy settings o bytes
in_step_by settings (Unfinished between) bytes are = tt
in_step_by settings (Faulty fault) bytes are = tt
in_step_by settings (Started channels rate size place) bytes are = λ t. in_step (audio_of settings channels bytes) t (λ u. are.least)

pub are_in_step : (settings : Settings) (bytes : List ℕ) → AreSettings settings → AreInStep settings bytes
are_in_step settings bytes are = in_step_by settings (outcome bytes) bytes are
