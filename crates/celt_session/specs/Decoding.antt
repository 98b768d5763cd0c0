-- What a stream is decoded into: a WAV file, samples alone, or the lines of `ranges`.
use Rattle.std.specs.Prelude.{Bool, true, false}
use Rattle.std.proofs.Common.{inl, inr}
use Rattle.celt_session.specs.declared.settings.Form.{Form}
use Rattle.celt_session.specs.declared.settings.Form.TheVariants.{Wav, Plain, Ranges}
use Rattle.celt_session.specs.declared.settings.DecodeSettings.{DecodeSettings}
use Rattle.celt_session.specs.PageFunctions.{PageFunction}
use Rattle.frame_symbols.specs.Readings.{range_of}
use Rattle.celt_session.specs.Choices.{either_function}
use Rattle.celt_session.specs.Samples.{samples_function}
use Rattle.celt_session.specs.Lines.{lines_function}
use Rattle.celt_session.specs.Players.{players_step}
use Rattle.celt_session.specs.Playing.{decoder_step}
use Rattle.celt_session.specs.Outcomes.{Meaning, meaning}

abbrev pub samples : PageFunction
samples = samples_function (players_step decoder_step)

abbrev pub lines : PageFunction
lines = lines_function range_of

abbrev pub decoding_function : PageFunction
decoding_function = either_function samples lines

-- the state before the first page
abbrev pub playing : Bool → Bool → samples.State
playing awaits_header invert = record { pages = 0; awaits_header = awaits_header; invert = invert; decoder = (players_step decoder_step).start }

abbrev pub sampling : Bool → Bool → decoding_function.State
sampling awaits_header invert = inl (playing awaits_header invert)

abbrev pub start_by : Form → Bool → decoding_function.State
start_by Wav invert = sampling true invert
start_by Plain invert = sampling false invert
start_by Ranges invert = inr (record { pages = 0; frames = 0 })

abbrev pub start_of : DecodeSettings → decoding_function.State
start_of settings = start_by settings.form settings.invert

-- what is written of a list of bytes, and its earliest fault
abbrev pub decoding : DecodeSettings → Meaning
decoding settings = meaning decoding_function (start_of settings)
