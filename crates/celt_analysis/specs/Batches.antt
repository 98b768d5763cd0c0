-- Batches of windows: each slot gets the pitch of its window, and what is found in its frame.
use Rattle.std.specs.Prelude.{◌≡◌, ℕ, ◌<◌, List, length, slice_index_or}
use Rattle.celt_base.specs.declared.kind.Kind.{Kind}
use Rattle.fixed_math.specs.Items.{item}
use Rattle.celt_analysis.specs.Analyses.{analysis_of}
use Rattle.celt_analysis.specs.Pitch.{IsPitchOf}
use Rattle.celt_analysis.specs.Signals.{setting_of, window_size}
use Rattle.celt_analysis.specs.declared.batch.WindowSlot.{WindowSlot}

-- the window has the samples of a window of this kind
abbrev pub IsWindow : Kind → WindowSlot → Type 0
IsWindow kind slot = length slot.window.items ≡ window_size kind

-- The last setting is the pitch of the window, and all else is as before.
pub record FindsPitch (kind : Kind) (before after : WindowSlot) : Type 0 where
  pub pitch : IsPitchOf kind.channels kind.lm (item before.window.items) (setting_of after.settings 2)
  pub first : setting_of after.settings 0 ≡ setting_of before.settings 0
  pub second : setting_of after.settings 1 ≡ setting_of before.settings 1
  pub window : after.window ≡ before.window
  pub analysis : after.analysis ≡ before.analysis

-- The slot holds what is found in its frame, and all else is as before.
pub record AnalysesSlot (kind : Kind) (before after : WindowSlot) : Type 0 where
  pub analysis : after.analysis ≡ analysis_of kind before.settings before.window.items
  pub window : after.window ≡ before.window
  pub settings : after.settings ≡ before.settings

abbrev pub AreWindows : Kind → List WindowSlot → Type 0
AreWindows kind slots = (k : ℕ) (d : WindowSlot) → k < length slots → IsWindow kind (slice_index_or slots k d)

abbrev pub FindsPitches : Kind → List WindowSlot → List WindowSlot → Type 0
FindsPitches kind before after =
    (k : ℕ) (d : WindowSlot) → k < length before → FindsPitch kind (slice_index_or before k d) (slice_index_or after k d)

abbrev pub AnalysesSlots : Kind → List WindowSlot → List WindowSlot → Type 0
AnalysesSlots kind before after =
    (k : ℕ) (d : WindowSlot) → k < length before → AnalysesSlot kind (slice_index_or before k d) (slice_index_or after k d)
