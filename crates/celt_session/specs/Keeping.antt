-- What is kept of a WAV file that is encoded and decoded again: as many samples per channel as it holds (RFC 7845, sections 4.2 and 4.4).
use Rattle.std.specs.Prelude.{◌≡◌, ℕ, pos, ◌*◌, Bool, List, length, Option, Some, None}
use Rattle.opus_stream.specs.Acceptance.{accepted, head_in}
use Rattle.wav_edge.specs.Reading.{outcome, samples}
use Rattle.wav_edge.specs.Reading.Outcome.{Started}
use Rattle.celt_session.specs.declared.settings.Form.TheVariants.{Wav, Plain}
use Rattle.celt_session.specs.declared.settings.DecodeSettings.{DecodeSettings}
use Rattle.celt_session.specs.declared.settings.Settings.{Settings}
use Rattle.celt_session.specs.Decoding.{decoding}
use Rattle.celt_session.specs.Encodings.{full}
use Rattle.celt_session.specs.FrameFunctions.{FrameFunction}

-- decoding into samples alone, and into a WAV file, with phase inversion or without
abbrev pub into_samples : Bool → DecodeSettings
into_samples invert = record { form = Plain; invert = invert }

abbrev pub into_file : Bool → DecodeSettings
into_file invert = record { form = Wav; invert = invert }

-- A WAV file of so many channels, each of which has so many samples.
pub record Holds (bytes : List ℕ) (channels count : ℕ) : Type 0 where
  pub rate : ℕ
  pub size : Option ℕ
  pub place : ℕ
  pub format : outcome bytes ≡ Started channels rate size place
  pub all : length (samples bytes) ≡ channels * count

-- The stream of a file: it is decoded without a fault, with the file's channels, a pre-skip of 120 samples and no gain; and it gives as many
-- samples per channel as the file holds, of two bytes each, whether phase inversion is taken or not.
pub record IsKept (f : FrameFunction) (settings : Settings) (bytes : List ℕ) : Type 0 where
  pub channels : ℕ
  pub count : ℕ
  pub held : Holds bytes channels count
  pub head : head_in (accepted (full f settings bytes)) ≡ Some (record { channels = channels; preskip = 120; gain = pos 0 })
  pub sound : (invert : Bool) → (decoding (into_samples invert)).fault_of (full f settings bytes) ≡ None
  pub given : (invert : Bool) → length ((decoding (into_samples invert)).full (full f settings bytes)) ≡ 2 * (channels * count)
  pub kept : (invert : Bool) → Holds ((decoding (into_file invert)).full (full f settings bytes)) channels count
