-- What an encoder finds in a frame.
use Rattle.std.specs.Prelude.{◌≡◌, ℕ, ◌*◌, ◌^◌, ◌<◌, nat_eq, nat_lt, Bool, false, if◌then◌else◌, ℤ, pos, unsigned_abs, List, [], length, replicate, get_or, Option, None, Some}
use Rattle.std.specs.List.{All}
use Rattle.celt_base.specs.declared.kind.Kind.{Kind}
use Rattle.celt_base.specs.declared.state.Setting.{Setting}
use Rattle.celt_tables.specs.Tables.{edge_of}
use Rattle.celt_analysis.specs.Energies.{floor, heights_of, is_silent, targets_of}
use Rattle.celt_analysis.specs.Signals.{blocks_of, channel_values, frame_size, is_stereo, off, setting_of}
use Rattle.celt_analysis.specs.Spectra.{spectrum}
use Rattle.celt_analysis.specs.Transients.{energies_in, is_transient}

-- The kind of the frame, which is none before the first one; whether it is silent, and a transient; the setting of its
-- post-filter; the spectrum of each channel, empty where there is none; the targets by channels and bands; and the heights
-- by bands.
pub record Analysis : Type 0 where
  pub kind : Option Kind
  pub silent : Bool
  pub transient : Bool
  pub setting : Setting
  pub left : List ℤ
  pub right : List ℤ
  pub targets : List (List ℤ)
  pub heights : List ℤ

-- before the first frame
unfoldable pub blank : Analysis
blank = record {
  kind = None;
  silent = false;
  transient = false;
  setting = off;
  left = [];
  right = [];
  targets = replicate 2 (replicate 21 floor);
  heights = replicate 21 floor;
}

-- of a frame with these spectra
unfoldable pub found : Kind → Setting → Bool → List ℤ → List ℤ → Analysis
found kind setting transient left right = record {
  kind = Some kind;
  silent = is_silent (is_stereo kind) (blocks_of kind * edge_of kind.end) left right;
  transient = transient;
  setting = setting;
  left = left;
  right = right;
  targets = targets_of (is_stereo kind) kind.end (blocks_of kind) left right;
  heights = heights_of (is_stereo kind) kind.end (blocks_of kind) left right;
}

-- whether a frame with these values of each channel is a transient
unfoldable pub transient_of : Kind → (ℕ → List ℤ) → Bool
transient_of kind values = is_transient kind.lm (energies_in (is_stereo kind) (values 0) (values 1))

-- the spectrum of its channel c
unfoldable pub spectrum_in : Kind → (ℕ → List ℤ) → ℕ → List ℤ
spectrum_in kind values c = spectrum (blocks_of kind) (transient_of kind values) (values c)

unfoldable pub analysed : Kind → Setting → (ℕ → List ℤ) → Analysis
analysed kind setting values =
    found kind setting (transient_of kind values) (spectrum_in kind values 0) (if is_stereo kind then spectrum_in kind values 1 else [])

-- of a frame with this window
unfoldable pub analysis_of : Kind → List Setting → List ℤ → Analysis
analysis_of kind settings window =
    analysed kind (setting_of settings 2) (channel_values kind settings window)

-- ---- what an analysis gives

abbrev pub spectrum_of : Analysis → ℕ → List ℤ
spectrum_of a c = if nat_eq c 0 then a.left else a.right

abbrev pub target_in : Analysis → ℕ → ℕ → ℤ
target_in a c b = get_or (get_or a.targets c []) b (pos 0)

abbrev pub height_in : Analysis → ℕ → ℤ
height_in a b = get_or a.heights b (pos 0)

-- how many items the spectrum of a channel has
unfoldable pub spectrum_size : Option Kind → ℕ → ℕ
spectrum_size None c = 0
spectrum_size (Some kind) c = if nat_lt c kind.channels then frame_size kind else 0

-- sizes that an analysis always keeps
abbrev pub AreTargets : List ℤ → Type 0
AreTargets targets = All (λ t. unsigned_abs t < 2 ^ 15) targets

pub record IsAnalysis (kind : Option Kind) (left right : List ℤ) (targets : List (List ℤ)) (heights : List ℤ) : Type 0 where
  pub left_size : length left ≡ spectrum_size kind 0
  pub right_size : length right ≡ spectrum_size kind 1
  pub left_items : All (λ x. unsigned_abs x < 2 ^ 38) left
  pub right_items : All (λ x. unsigned_abs x < 2 ^ 38) right
  pub target_rows : length targets ≡ 2
  pub bands : All (λ row. length row ≡ 21) targets
  pub targets_are : All AreTargets targets
  pub heights_are : AreTargets heights
