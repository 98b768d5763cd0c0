-- The samples of a stream: those of the frames of the accepted pages, one behind the other, of which each page's span is written
-- (RFC 7845, section 4), channels interleaved, in 16 bits, the lower byte first.
use Rattle.std.specs.Prelude.{◌≡◌, ℕ, ℤ, pos, ◌+◌, ◌-◌, ◌*◌, length, ◌==◌, Bool, false, List, [], ◌∷◌, ◌++◌, if◌then◌else◌, Option, None, Some}
use Rattle.std.specs.List.{slice_range}
use Rattle.std.specs.Io.KnownBytes.{Appends}
use Rattle.opus_packets.specs.declared.header.Head.{Head}
use Rattle.wav_edge.specs.Samples.{bytes_of}
use Rattle.wav_edge.specs.Spellings.{header}
use Rattle.opus_stream.specs.declared.answers.Span.{Span}
use Rattle.celt_session.specs.Pages.{Heard}
use Rattle.celt_session.specs.PageFunctions.{PageFunction}
use Rattle.celt_session.specs.Frames.{Frame, page_frames}

-- What a stream is decoded into: so many channels, with this output gain, and whether phase inversion is taken.
pub record Target : Type 0 where
  pub channels : ℕ
  pub gain : ℤ
  pub invert : Bool

-- The step of a decoder: the state before the first frame; and of a state and a frame the state after it and the frame's samples,
-- channels interleaved.
pub record FrameStep : Type 1 where
  pub State : Type 0
  pub start : State
  pub after : State → Target → Frame → State
  pub samples : State → Target → Frame → List ℤ

-- frames in order
unfoldable pub decoder_after : (step : FrameStep) → step.State → Target → List Frame → step.State
decoder_after step s target [] = s
decoder_after step s target (frame ∷ frames) = decoder_after step (step.after s target frame) target frames

unfoldable pub samples_of : (step : FrameStep) → step.State → Target → List Frame → List ℤ
samples_of step s target [] = []
samples_of step s target (frame ∷ frames) = step.samples s target frame ++ samples_of step (step.after s target frame) target frames

-- the bytes of those of their samples that are between two places
abbrev pub text_of : (step : FrameStep) → step.State → Target → List Frame → ℕ → ℕ → List ℕ
text_of step s target frames from to = bytes_of (slice_range (samples_of step s target frames) from to)

-- frames were played: the state behind them, what is left of the two places, and their text in the output
pub record Sounds (step : FrameStep) (s : step.State) (target : Target) (frames : List Frame) (from to : ℕ) (now : step.State) (behind until : ℕ) (old new : Option (List ℕ)) : Type 0 where
  pub state_is : now ≡ decoder_after step s target frames
  pub from_is : behind ≡ from - length (samples_of step s target frames)
  pub to_is : until ≡ to - length (samples_of step s target frames)
  pub goes : Appends old new (text_of step s target frames from to)

-- ---- A PAGE

abbrev pub channels_in : Option Head → ℕ
channels_in None = 1
channels_in (Some head) = if head.channels == 2 then 2 else 1

abbrev pub gain_in : Option Head → ℤ
gain_in None = pos 0
gain_in (Some head) = head.gain

-- of samples of so many channels those of the span
abbrev pub written : ℕ → Span → List ℤ → List ℤ
written channels span samples = slice_range samples (channels * span.from) (channels * span.to)

-- how many pages came before, whether a WAV header stands before the first one's samples, whether phase inversion is taken, and
-- the decoder
pub record Playing (step : FrameStep) : Type 0 where
  pub pages : ℕ
  pub awaits_header : Bool
  pub invert : Bool
  pub decoder : step.State

abbrev pub target_of : {step : FrameStep} → Playing step → Heard → Target
target_of s page = record { channels = channels_in page.head; gain = gain_in page.head; invert = s.invert }

abbrev pub opening : Bool → Heard → List ℕ
opening awaits_header page = if awaits_header then header (channels_in page.head) else []

abbrev pub samples_function : FrameStep → PageFunction
samples_function step = record {
  State = Playing step;
  next = λ s page. record {
    pages = s.pages + 1;
    awaits_header = false;
    invert = s.invert;
    decoder = decoder_after step s.decoder (target_of s page) (page_frames page.packets);
  };
  says = λ s page.
      opening s.awaits_header page
      ++ bytes_of (written (channels_in page.head) page.span (samples_of step s.decoder (target_of s page) (page_frames page.packets)));
}
