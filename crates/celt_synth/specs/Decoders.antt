-- What a decoder stands for, and the parts of a frame step by which it goes.
use Rattle.std.specs.Prelude.{◌≡◌, ℕ, ◌≤◌, nat_eq, Bool, if◌then◌else◌, ℤ, List}
use Rattle.celt_base.specs.declared.kind.Kind.{Kind}
use Rattle.celt_base.specs.declared.state.Setting.{Setting}
use Rattle.celt_base.specs.Energies.{AreEnergies}
use Rattle.celt_synth.specs.Rows.{energies_after, older1_after, older2_after}
use Rattle.celt_synth.specs.Signals.{channel_after, mono_samples, stereo_samples}
use Rattle.celt_synth.specs.Shapes.{Shaped}
use Rattle.celt_synth.specs.Shared.{Heard}
use Rattle.celt_synth.specs.States.{State}
use Rattle.celt_synth.specs.Steps.{Made}
use Rattle.celt_synth.specs.Streams.{first_of, second_of}
use Rattle.celt_synth.specs.declared.signals.Form.{Form}
use Rattle.celt_synth.specs.declared.decoder.Ending.{Ending}
use Rattle.celt_synth.specs.declared.decoder.Shaping.{Shaping}

-- the channels of its stream, whether it inverts phases, and its state
pub record Decoder : Type 0 where
  pub channels : ℕ
  pub invert : Bool
  pub state : State

abbrev pub with_state : Decoder → State → Decoder
with_state d s = record { channels = d.channels; invert = d.invert; state = s }

pub record IsDecoder (channels : ℕ) (energies older1 older2 : List (List ℤ)) : Type 0 where
  pub some : 1 ≤ channels
  pub most : channels ≤ 2
  pub energies_are : AreEnergies energies
  pub older1_are : AreEnergies older1
  pub older2_are : AreEnergies older2

-- the state once spectra of a frame's channels have sounded
unfoldable pub state_sounded : ℕ → ℕ → Form → List ℤ → List ℤ → State → State
state_sounded stream frame form xs ys s = record {
  energies = s.energies;
  older1 = s.older1;
  older2 = s.older2;
  seed = s.seed;
  range = s.range;
  before = s.before;
  now = s.now;
  left = channel_after form s.left (first_of stream frame xs ys);
  right = if nat_eq stream 2 then channel_after form s.right (second_of frame xs ys) else s.right;
}

unfoldable pub samples_sounded : ℕ → ℕ → ℤ → Form → List ℤ → List ℤ → State → List ℤ
samples_sounded stream frame gain form xs ys s =
    if nat_eq stream 2
    then stereo_samples gain form s.left s.right (first_of stream frame xs ys) (second_of frame xs ys)
    else mono_samples gain form s.left (first_of stream frame xs ys)

-- the state once the rows of energies, the settings, the seed and the range are those for the next frame
unfoldable pub state_ended : Kind → Ending → State → State
state_ended kind e s = record {
  energies = energies_after kind.channels kind.end s.energies;
  older1 = older1_after kind.channels kind.end e.transient s.energies s.older1;
  older2 = older2_after kind.end e.transient s.older1 s.older2;
  seed = e.seed;
  range = e.range;
  before = if nat_eq kind.lm 0 then s.now else e.setting;
  now = e.setting;
  left = s.left;
  right = s.right;
}

-- a frame of these spectra, energies and other parts; in mono the second spectrum is not heard
pub record IsMade (kind : Kind) (e : Ending) (energies : List (List ℤ)) (xs ys : List ℤ) (made : Made) : Type 0 where
  pub left_is : xs ≡ made.left
  pub right_is : kind.channels ≡ 2 → ys ≡ made.right
  pub transient_is : e.transient ≡ made.transient
  pub setting_is : e.setting ≡ made.setting
  pub energies_are : energies ≡ made.energies
  pub range_is : e.range ≡ made.range
  pub seed_is : e.seed ≡ made.seed

-- what was read of a frame that sounds, and its shapes; in mono the right ones are not heard
pub record Hears (kind : Kind) (shaping : Shaping) (xs ys : List ℤ) (heard : Heard) (shaped : Shaped) : Type 0 where
  pub transient_is : shaping.transient ≡ heard.transient
  pub collapse_is : shaping.collapse ≡ heard.collapse
  pub setting_is : shaping.setting ≡ heard.setting
  pub range_is : shaping.range ≡ heard.range
  pub pulses_are : shaping.pulses ≡ heard.pulses
  pub masks_are : shaping.masks ≡ shaped.masks
  pub seed_is : shaping.seed ≡ shaped.shapes.seed
  pub left_is : xs ≡ shaped.shapes.left
  pub right_is : kind.channels ≡ 2 → ys ≡ shaped.shapes.right
