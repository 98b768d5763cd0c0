-- What the reading of a frame says to the frame step, and the step of a frame's bytes.
use Rattle.std.specs.Prelude.{◌≡◌, ℕ, min, max, nat_lt, Bool, true, false, if◌then◌else◌, ℤ, pos, List, [], ◌∷◌, map, get_or, length, Option, None, Some}
use Rattle.std.specs.List.{range_with_len}
use Rattle.std.proofs.Common.{arith}
use Rattle.band_energy.specs.declared.energy.Energy.{Energy}
use Rattle.band_energy.specs.EnergyValues.{energies_of}
use Rattle.band_plan.specs.Plans.{amount_at, all_nodes}
use Rattle.band_shapes.specs.Frames.{Symbols, symbols_of, shapes_of}
use Rattle.celt_base.specs.declared.kind.Kind.{Kind}
use Rattle.celt_base.specs.declared.state.Setting.{Setting}
use Rattle.celt_base.specs.Questions.{Answered, interval_of}
use Rattle.celt_base.specs.WalkOrders.{outcome}
use Rattle.fixed_math.specs.Items.{listed}
use Rattle.frame_symbols.specs.declared.fields.Fields.{Fields}
use Rattle.frame_symbols.specs.declared.opening.PostFilter.{PostFilter}
use Rattle.frame_symbols.specs.Frames.{Sound, frame_script, first_pace}
use Rattle.frame_symbols.specs.Readings.{reading_of, range_of}
use Rattle.celt_synth.specs.Shapes.{Shaped, shapes_of as three_of}
use Rattle.celt_synth.specs.Shared.{SharedState, Heard, share}
use Rattle.celt_synth.specs.States.{State, off}
use Rattle.celt_synth.specs.Steps.{Stepped, step, conceal}
use Rattle.celt_synth.specs.declared.decoder.Shaping.{Shaping}

-- a table by channels and bands from its rows, one a band
abbrev pub by_channels : {A : Type 0} → A → List (List A) → List (List A)
by_channels blank rows = map (λ channel. map (λ band. get_or (get_or rows band []) channel blank) (range_with_len 0 21)) (range_with_len 0 2)

-- the answers of the energies
abbrev pub energy_of : Sound → Energy
energy_of s = record { coarse = by_channels (pos 0) s.coarse; fine = by_channels 0 s.fine; last = by_channels None s.last }

-- the setting of the post-filter; every frame's is within these bounds
unfoldable pub setting_of : PostFilter → Setting
setting_of p = record {
  period = max 15 (min 1022 p.period);
  gain = min 24576 p.gain;
  tapset = min 2 p.tapset;
  least_period = omega arith;
  most_period = omega arith;
  most_gain = omega arith;
  most_tapset = omega arith;
}

-- a frame of this range that came to a sound, or is silent
unfoldable pub heard_of : Kind → ℕ → Option Sound → Heard
heard_of kind range None = record { silent = true; transient = false; collapse = false; range = range; setting = off; changed = λ es. es; pulses = [] }
heard_of kind range (Some s) = record {
  silent = false;
  transient = s.opening.transient;
  collapse = s.collapse;
  range = range;
  setting = setting_of s.opening.post_filter;
  changed = energies_of kind s.opening.intra s.amounts.allocation (energy_of s);
  pulses = s.amounts.allocation.pulses;
}

-- the symbols of its bands
abbrev pub bands_in : Sound → Symbols
bands_in s = record {
  settings = s.shaping.settings;
  intensity = s.amounts.allocation.intensity;
  dual = s.amounts.allocation.dual;
  amounts = listed 21 (amount_at s.plans);
  nodes = all_nodes s.plans;
}

-- the shapes that they make with a seed
unfoldable pub shaped_by : Kind → Symbols → Bool → ℕ → Shaped
shaped_by kind symbols invert seed = record {
  shapes = three_of (shapes_of kind symbols invert seed).left (shapes_of kind symbols invert seed).right (shapes_of kind symbols invert seed).seed;
  masks = (shapes_of kind symbols invert seed).left_masks ∷ (shapes_of kind symbols invert seed).right_masks ∷ [];
}

-- a silent frame has none
unfoldable pub shaped_of : Kind → Option Sound → Bool → ℕ → Shaped
shaped_of kind None invert seed = record { shapes = three_of [] [] seed; masks = [] }
shaped_of kind (Some s) invert seed = shaped_by kind (bands_in s) invert seed

-- The frame step in a stream of so many channels, from a frame's bytes. A frame of 0 or 1 bytes is concealed.
unfoldable pub frame_step : ℕ → Bool → Kind → List ℕ → ℤ → State → Stepped
frame_step stream invert kind frame gain s =
    if nat_lt (length frame) 2
    then conceal stream kind gain s
    else step stream kind (heard_of kind (range_of kind frame) (reading_of kind frame).value) (shaped_of kind (reading_of kind frame).value invert) gain s

-- what a list of answers comes to; a list that is no frame's is taken as a silent one
unfoldable pub value_in : Option (Option Sound) → Option Sound
value_in None = None
value_in (Some value) = value

unfoldable pub value_of : Kind → ℕ → List Answered → Option Sound
value_of kind len list = value_in (outcome (frame_script kind len) first_pace list)

-- what encoder and decoder share after a frame of `len` bytes with these answers
unfoldable pub share_by : Kind → ℕ → List Answered → SharedState → SharedState
share_by kind len list s = share kind (heard_of kind (interval_of list).width (value_of kind len list)) s

-- the shapes of the bands of these fields, with what else the frame step asks of them
pub record IsShaped (kind : Kind) (f : Fields) (range : ℕ) (invert : Bool) (seed : ℕ) (p : Shaping) (xs ys : List ℤ) : Type 0 where
  pub count : length f.bands.amounts ≡ 21
  pub transient_is : p.transient ≡ f.opening.transient
  pub collapse_is : p.collapse ≡ f.collapse
  pub setting_is : p.setting ≡ setting_of f.opening.post_filter
  pub range_is : p.range ≡ range
  pub pulses_are : p.pulses ≡ f.allocation.pulses
  pub masks_are : p.masks ≡ (shaped_by kind (symbols_of f.bands) invert seed).masks
  pub seed_is : p.seed ≡ (shaped_by kind (symbols_of f.bands) invert seed).shapes.seed
  pub left_is : xs ≡ (shaped_by kind (symbols_of f.bands) invert seed).shapes.left
  pub right_is : ys ≡ (shaped_by kind (symbols_of f.bands) invert seed).shapes.right
