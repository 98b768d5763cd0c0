-- The frames of an encoder, by windows of samples.
use Rattle.std.specs.Prelude.{◌≡◌, ℕ, zero, suc, ◌+◌, ◌%◌, ◌^◌, nat_lt, Bool, true, false, if◌then◌else◌, min, max, ℤ, List, [], ◌∷◌, length, None}
use Rattle.std.proofs.Common.{arith, refl, ap}
use Rattle.celt_base.specs.declared.kind.Kind.{Kind}
use Rattle.celt_base.specs.declared.state.Setting.{Setting}
use Rattle.fixed_math.specs.Items.{item}
use Rattle.celt_analysis.specs.Analyses.{Analysis, analysis_of}
use Rattle.celt_analysis.specs.Pitch.{downmix, best_candidate, gain_of}
use Rattle.celt_analysis.specs.Signals.{frame_size}
use Rattle.celt_encode.specs.Encoders.{EncoderState, outset_by, encoded, after_frame}
use Rattle.celt_synth.specs.Shared.{SharedState, shared_of}
use Rattle.celt_synth.specs.States.{start, off}
use Rattle.celt_session.specs.FrameFunctions.{FrameFunction}
use Rattle.celt_encode.specs.Codes.{bytes_of, code_of}
use Rattle.celt_encode.specs.Frames.{frame_of}

-- the setting of the post-filter for n samples of s from place f on; its numbers are always within these bounds
unfoldable pub pitch_in : (ℕ → ℤ) → ℕ → ℕ → Setting
pitch_in s f n = record {
  period = max 15 (min 1022 (if nat_lt 0 (gain_of s f n) then 15 + best_candidate s f n else 15));
  gain = min 24576 (gain_of s f n);
  tapset = 0;
  least_period = omega arith;
  most_period = omega arith;
  most_gain = omega arith;
  most_tapset = omega arith;
}

-- the setting for the frame of a window
unfoldable pub pitch_of : Kind → List ℤ → Setting
pitch_of kind window = pitch_in (downmix kind.channels (item window)) 1022 (frame_size kind)

-- What an encoding keeps from frame to frame: what encoder and decoder share, whether a frame was made, and the settings of the
-- two frames before.
pub record Footing : Type 0 where
  pub shared : SharedState
  pub made : Bool
  pub earlier : Setting
  pub last : Setting

abbrev pub first_footing : Footing
first_footing = record { shared = shared_of start; made = false; earlier = off; last = off }

-- the analysis of a window: the post-filter goes over the settings of three frames
abbrev pub analysis_by : Footing → Kind → List ℤ → Analysis
analysis_by s kind window = analysis_of kind (s.earlier ∷ s.last ∷ pitch_of kind window ∷ []) window

abbrev pub encoder_by : Footing → Kind → EncoderState
encoder_by s kind = record { kind = kind; shared = s.shared; made = s.made; fell = None }

unfoldable pub footing_after : Footing → Kind → ℕ → List ℤ → Footing
footing_after s kind bytes window = record {
  shared = (after_frame (encoder_by s kind) (analysis_by s kind window) bytes).shared;
  made = true;
  earlier = s.last;
  last = pitch_of kind window;
}

unfoldable pub frame_by : Footing → Kind → ℕ → List ℤ → List ℕ
frame_by s kind bytes window = encoded (encoder_by s kind) (analysis_by s kind window) bytes

bytes_length : (len n : ℕ) → length (bytes_of len n) ≡ len
unfolding bytes_of
bytes_length zero n = refl
bytes_length (suc len) n = ap suc (bytes_length len (n % 256 ^ len))

pub frame_length : (s : Footing) (kind : Kind) (bytes : ℕ) (window : List ℤ) → length (frame_by s kind bytes window) ≡ bytes
unfolding frame_by encoded frame_of code_of outset_by
frame_length s kind bytes window = bytes_length bytes _

-- The encoded frames, as a function of a window.
abbrev pub encoded_frames : FrameFunction
encoded_frames = record {
  State = Footing;
  start = first_footing;
  next = footing_after;
  frame = frame_by;
  sized = λ s kind bytes window least. frame_length s kind bytes window;
}
