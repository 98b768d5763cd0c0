-- What playing frames does: the decoder behind them, what is left of the two places between which samples are written, and the output.
use Rattle.std.specs.Prelude.{◌≡◌, ℕ, ◌*◌, ◌≤◌, ◌⊎◌, ℤ, unsigned_abs, List, Option, Result, Ok, Err}
use Rattle.celt_base.specs.declared.kind.Kind.{Kind}
use Rattle.celt_base.specs.declared.outside.Failed.{Failed}
use Rattle.celt_base.specs.Outside.{AppendsFront}
use Rattle.celt_synth.specs.Decoders.{Decoder}
use Rattle.celt_synth.specs.Readings.{frame_step}
use Rattle.celt_synth.specs.States.{State, start}
use Rattle.celt_synth.specs.Steps.{Stepped}
use Rattle.opus_stream.specs.declared.answers.Span.{Span}
use Rattle.opus_stream.specs.Readers.{Reader}
use Rattle.celt_session.specs.declared.playing.Playing.{Playing}
use Rattle.celt_session.specs.Frames.{Frame}
use Rattle.celt_session.specs.Samples.{Target, FrameStep, text_of, Sounds, channels_in, gain_in}

-- The step of one decoder: the frame step with the channels, the gain and the inversion of the target.
abbrev pub decoder_step : FrameStep
decoder_step = record {
  State = State;
  start = start;
  after = λ s target frame. (frame_step target.channels target.invert frame.kind frame.bytes target.gain s).state;
  samples = λ s target frame. (frame_step target.channels target.invert frame.kind frame.bytes target.gain s).samples;
}

abbrev pub played_by : Decoder → Kind → List ℕ → ℤ → Stepped
played_by d kind frame gain = frame_step d.channels d.invert kind frame gain d.state

abbrev pub target_for : Decoder → Playing → Target
target_for d p = record { channels = p.channels; gain = p.gain; invert = d.invert }

-- how the frames of the page that a reader gave last are played
abbrev pub playing_in : Reader → Playing
playing_in r = record { channels = channels_in r.progress.head; gain = gain_in r.progress.head; span = r.given.written }

-- the decoder is one for these channels, and the gain is a header's
pub record IsPlaying (d : Decoder) (p : Playing) : Type 0 where
  pub channels_are : d.channels ≡ p.channels
  pub one_or_two : (p.channels ≡ 1) ⊎ (p.channels ≡ 2)
  pub gain : unsigned_abs p.gain ≤ 32768

-- These frames were played: where it went well, what is left of the span is answered.
abbrev pub Plays : Decoder → Target → List Frame → Span → Decoder → Option (List ℕ) → Option (List ℕ) → Result Span Failed → Type 0
Plays d target frames span now old new (Ok next) =
    Sounds decoder_step d.state target frames (target.channels * span.from) (target.channels * span.to) now.state (target.channels * next.from) (target.channels * next.to) old new
Plays d target frames span now old new (Err failure) = AppendsFront old new (text_of decoder_step d.state target frames (target.channels * span.from) (target.channels * span.to))
