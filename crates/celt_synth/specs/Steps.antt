-- The frame step: the state and the samples that follow from a frame (RFC 6716, 4.3.4 to 4.3.7).
use Rattle.std.specs.Prelude.{ℕ, ◌*◌, nat_eq, Bool, false, if◌then◌else◌, ℤ, pos, List, [], get_or, replicate}
use Rattle.celt_base.specs.declared.kind.Kind.{Kind}
use Rattle.celt_base.specs.declared.state.Setting.{Setting}
use Rattle.celt_synth.specs.Amplitude.{spectrum_of}
use Rattle.celt_synth.specs.AntiCollapse.{uncollapsed_if}
use Rattle.celt_synth.specs.Blocks.{blocks_of}
use Rattle.celt_synth.specs.Concealment.{noise_shapes, concealed_energies}
use Rattle.celt_synth.specs.Rows.{greater, older1_after, older2_after}
use Rattle.celt_synth.specs.Shapes.{Shapes, Shaped}
use Rattle.celt_synth.specs.Shared.{SharedState, Heard, shared_of, shared_after, silent_energies}
use Rattle.celt_synth.specs.Signals.{channel_after, mono_samples, stereo_samples}
use Rattle.celt_synth.specs.States.{State, off}
use Rattle.celt_synth.specs.Streams.{first_of, second_of}
use Rattle.celt_synth.specs.declared.anti_collapse.Grounds.{Grounds}
use Rattle.celt_synth.specs.declared.signals.Form.{Form}

-- What a frame comes to before it sounds: the spectra of its channels, whether it is a transient, the setting of its
-- post-filter, its energies, its range, and the seed of the next frame.
pub record Made : Type 0 where
  pub left : List ℤ
  pub right : List ℤ
  pub transient : Bool
  pub setting : Setting
  pub energies : List (List ℤ)
  pub range : ℕ
  pub seed : ℕ

-- the spectra of a frame that is silent, and of shapes
abbrev pub no_spectrum : Kind → List ℤ
no_spectrum kind = replicate (120 * blocks_of kind) (pos 0)

abbrev pub spectrum_in : Kind → List (List ℤ) → ℕ → List ℤ → List ℤ
spectrum_in kind es c xs = spectrum_of (blocks_of kind) kind.end (get_or es c []) xs

-- the shapes of a frame of these energies, after anti-collapse where the frame asks for it
abbrev pub grounds_of : Kind → Heard → Shaped → List (List ℤ) → State → Grounds
grounds_of kind heard shaped es s = record { kind = kind; pulses = heard.pulses; masks = shaped.masks; energies = es; older1 = s.older1; older2 = s.older2 }

unfoldable pub shapes_in : Kind → Heard → Shaped → List (List ℤ) → State → Shapes
shapes_in kind heard shaped es s = uncollapsed_if heard.collapse (grounds_of kind heard shaped es s) shaped.shapes

-- a frame of these energies, whose answers make these shapes: the next seed is its range
unfoldable pub made_sounding : Kind → Heard → Shaped → List (List ℤ) → State → Made
made_sounding kind heard shaped es s = record {
  left = spectrum_in kind es 0 (shapes_in kind heard shaped es s).left;
  right = spectrum_in kind es 1 (shapes_in kind heard shaped es s).right;
  transient = heard.transient;
  setting = heard.setting;
  energies = es;
  range = heard.range;
  seed = heard.range;
}

-- a silent frame: it is not transient, and the post-filter is off
unfoldable pub made_silent : Kind → ℕ → List (List ℤ) → Made
made_silent kind range es = record { left = no_spectrum kind; right = no_spectrum kind; transient = false; setting = off; energies = es; range = range; seed = range }

-- a frame that was read
unfoldable pub made_of : Kind → Heard → Shaped → State → Made
made_of kind heard shaped s =
    if heard.silent
    then made_silent kind heard.range (silent_energies kind s.energies)
    else made_sounding kind heard shaped (heard.changed (greater kind.channels s.energies)) s

-- a concealed frame: one long block, the post-filter off, the range 0, and the seed as the noise left it
unfoldable pub made_concealed : Kind → State → Made
made_concealed kind s = record {
  left = spectrum_in kind (concealed_energies kind s.energies) 0 (noise_shapes kind kind.end s.seed).left;
  right = spectrum_in kind (concealed_energies kind s.energies) 1 (noise_shapes kind kind.end s.seed).right;
  transient = false;
  setting = off;
  energies = concealed_energies kind s.energies;
  range = 0;
  seed = (noise_shapes kind kind.end s.seed).seed;
}

-- the spectra of the stream's channels
abbrev pub first_spectrum : ℕ → Kind → Made → List ℤ
first_spectrum stream kind made = first_of stream kind.channels made.left made.right

abbrev pub second_spectrum : Kind → Made → List ℤ
second_spectrum kind made = second_of kind.channels made.left made.right

-- how it sounds, with the settings of the two frames before
abbrev pub form_of : Kind → Made → State → Form
form_of kind made s = record { blocks = blocks_of kind; transient = made.transient; before = s.before; now = s.now; frame = made.setting }

-- the samples of a frame in a stream of one channel or of two
unfoldable pub samples_of : ℕ → Kind → ℤ → Made → State → List ℤ
samples_of stream kind gain made s =
    if nat_eq stream 2
    then stereo_samples gain (form_of kind made s) s.left s.right (first_spectrum stream kind made) (second_spectrum kind made)
    else mono_samples gain (form_of kind made s) s.left (first_spectrum stream kind made)

-- what encoder and decoder share after it
abbrev pub shared_made : Kind → Made → SharedState → SharedState
shared_made kind made s = shared_after kind made.energies made.range made.seed made.setting s

-- the state after it; in a stream of one channel the second one stays
unfoldable pub state_after : ℕ → Kind → Made → State → State
state_after stream kind made s = record {
  energies = (shared_made kind made (shared_of s)).energies;
  older1 = older1_after kind.channels kind.end made.transient made.energies s.older1;
  older2 = older2_after kind.end made.transient s.older1 s.older2;
  seed = (shared_made kind made (shared_of s)).seed;
  range = (shared_made kind made (shared_of s)).range;
  before = (shared_made kind made (shared_of s)).before;
  now = (shared_made kind made (shared_of s)).now;
  left = channel_after (form_of kind made s) s.left (first_spectrum stream kind made);
  right = if nat_eq stream 2 then channel_after (form_of kind made s) s.right (second_spectrum kind made) else s.right;
}

-- the state and the samples, channels in turn, that follow from a frame
pub record Stepped : Type 0 where
  pub state : State
  pub samples : List ℤ

abbrev pub stepped : ℕ → Kind → ℤ → Made → State → Stepped
stepped stream kind gain made s = record { state = state_after stream kind made s; samples = samples_of stream kind gain made s }

-- The frame step in a stream of so many channels: from what was read of a frame, from the shapes that its answers make with
-- a seed, and from the header's output gain.
unfoldable pub step : ℕ → Kind → Heard → (ℕ → Shaped) → ℤ → State → Stepped
step stream kind heard shaped gain s = stepped stream kind gain (made_of kind heard (shaped s.seed) s) s

-- The frame step of a frame of 0 or 1 bytes.
unfoldable pub conceal : ℕ → Kind → ℤ → State → Stepped
conceal stream kind gain s = stepped stream kind gain (made_concealed kind s) s
