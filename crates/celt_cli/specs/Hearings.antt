-- What decoding the frames of `gen` does, frame after frame.
use Rattle.std.specs.Prelude.{◌≡◌, ℕ, ℤ, ◌+◌, pos, true, List, ◌++◌, if◌then◌else◌}
use Rattle.frame_symbols.specs.Readings.{range_of}
use Rattle.celt_synth.specs.Decoders.{Decoder, with_state}
use Rattle.celt_synth.specs.Readings.{frame_step}
use Rattle.celt_synth.specs.States.{start}
use Rattle.celt_synth.specs.Steps.{Stepped}
use Rattle.celt_cli.specs.declared.generator.GenSettings.{GenSettings}
use Rattle.celt_cli.specs.declared.hearing.Heard.{Heard}
use Rattle.celt_cli.specs.GenLines.{decoded, last_range, replaced_among}
use Rattle.celt_cli.specs.GenSums.{HasTallied}
use Rattle.celt_cli.specs.Makers.{Makers, gen_kind, gen_bytes}

-- a decoder of two channels, with phase inversion, before the first frame
abbrev pub new_decoder : Decoder
new_decoder = record { channels = 2; invert = true; state = start }

-- the frame that a maker in this state makes of a window, and the step of it
abbrev pub frame_from : {M : Type 0} (m : Makers M) → m.function.State → List ℤ → List ℕ
frame_from m s window = m.function.frame s gen_kind gen_bytes window

abbrev pub step_from : {M : Type 0} (m : Makers M) → m.function.State → List ℤ → Decoder → Stepped
step_from m s window d = frame_step d.channels d.invert gen_kind (frame_from m s window) (pos 0) d.state

-- one frame more was heard
pub record HeardFrame {M : Type 0} (m : Makers M) (s : m.function.State) (before window : List ℤ) (decoder : Decoder) (heard : Heard) (now : M) (after : Decoder) (next : Heard) : Type 0 where
  pub shows : m.Shows now (m.function.next s gen_kind gen_bytes window)
  pub decoder_is : after ≡ with_state decoder (step_from m s window decoder).state
  pub tallied : HasTallied (before ++ (step_from m s window decoder).samples) next.tally
  pub silent_is : next.silent ≡ heard.silent + (if m.is_replaced s window then 1 else 0)
  pub range_is : next.range ≡ range_of gen_kind (frame_from m s window)

-- so many frames were heard
pub record HasHeard {M : Type 0} (m : Makers M) (settings : GenSettings) (count : ℕ) (heard : Heard) : Type 0 where
  pub tallied : HasTallied (decoded m.function settings count) heard.tally
  pub silent_is : heard.silent ≡ replaced_among m settings count
  pub range_is : heard.range ≡ last_range m.function settings count
