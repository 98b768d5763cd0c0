-- That a decoder keeps in step with the encoder of a stream: of each frame its number of bytes, its answers, and what both share
-- behind it (RFC 6716, section 5).
use Rattle.std.specs.Prelude.{◌≡◌, ℕ, ◌+◌, ℤ, List, length, map, ⊤}
use Rattle.celt_base.specs.declared.kind.Kind.{Kind}
use Rattle.celt_base.specs.Questions.{Answered}
use Rattle.frame_symbols.specs.Readings.{IsReading}
use Rattle.wav_edge.specs.Reading.{Outcome, outcome}
use Rattle.wav_edge.specs.Reading.Outcome.{Unfinished, Faulty, Started}
use Rattle.celt_synth.specs.Shared.{SharedState, shared_of}
use Rattle.celt_synth.specs.States.{State, start}
use Rattle.celt_encode.specs.Encoders.{kept}
use Rattle.celt_session.specs.declared.settings.Settings.{Settings}
use Rattle.celt_session.specs.Frames.{kind_of, framed}
use Rattle.celt_session.specs.FrameFunctions.{frame_at, frames_from, state_before}
use Rattle.celt_session.specs.EncodedFrames.{Footing, encoded_frames, analysis_by, encoder_by}
use Rattle.celt_session.specs.Encodings.{Audio, audio_of, row_of}
use Rattle.celt_session.specs.Playing.{decoder_step}
use Rattle.celt_session.specs.Samples.{Target, decoder_after}

-- the answers that an encoder keeps of the frame of a window
unfoldable pub kept_by : Footing → Kind → ℕ → List ℤ → List Answered
kept_by s kind bytes window = kept (encoder_by s kind) (analysis_by s kind window) bytes

-- the encoder before frame t, and frame t with the answers that are kept of it
abbrev pub encoder_before : Audio → ℕ → Footing
encoder_before a t = state_before encoded_frames (row_of encoded_frames a) t

abbrev pub frame_of : Audio → ℕ → List ℕ
frame_of a t = frame_at encoded_frames (row_of encoded_frames a) t

abbrev pub kept_at : Audio → ℕ → List Answered
kept_at a t = kept_by (encoder_before a t) (kind_of a.toc) (a.bytes t) ((row_of encoded_frames a).window t)

-- the decoder behind the first t frames, from its start
abbrev pub decoder_behind : Target → Audio → ℕ → State
decoder_behind target a t = decoder_after decoder_step start target (map (framed (kind_of a.toc)) (frames_from (frame_of a) 0 t))

-- Frame t has the length that is asked for; its reading is the answers that the encoder keeps; and behind it the decoder holds the
-- final range, the band energies, the noise seed and the post-filter settings that the encoder holds, for each number of channels and
-- each gain, with and without inversion of phases.
pub record InStep (a : Audio) (t : ℕ) : Type 0 where
  pub size : length (frame_of a t) ≡ a.bytes t
  pub reads : IsReading (kind_of a.toc) (frame_of a t) (kept_at a t)
  pub shares : (target : Target) → shared_of (decoder_behind target a (t + 1)) ≡ (encoder_before a (t + 1)).shared

-- each frame of the encoding of a file's bytes
abbrev pub InStepBy : Settings → Outcome → List ℕ → Type 0
InStepBy settings (Unfinished between) bytes = ⊤
InStepBy settings (Faulty fault) bytes = ⊤
InStepBy settings (Started channels rate size place) bytes = (t : ℕ) → InStep (audio_of settings channels bytes) t

abbrev pub AreInStep : Settings → List ℕ → Type 0
AreInStep settings bytes = InStepBy settings (outcome bytes) bytes
