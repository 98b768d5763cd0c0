-- What is heard in the windows of a batch, with the settings of the frames before them.
use Rattle.std.specs.Prelude.{◌≡◌, ℕ, zero, suc, ◌*◌, ◌<◌, ℤ, List, [], ◌∷◌, length, take, drop, slice_index_or}
use Rattle.celt_base.specs.declared.kind.Kind.{Kind}
use Rattle.celt_base.specs.declared.state.Setting.{Setting}
use Rattle.celt_analysis.specs.declared.batch.WindowSlot.{WindowSlot}
use Rattle.celt_analysis.specs.Analyses.{Analysis, analysis_of}
use Rattle.celt_analysis.specs.Signals.{setting_of}
use Rattle.celt_session.specs.declared.hearing.Trail.{Trail}
use Rattle.celt_session.specs.EncodedFrames.{pitch_of}
use Rattle.celt_session.specs.Frames.{duration}
use Rattle.celt_session.specs.FrameWorks.{batch_len}

-- window k of a batch's samples
abbrev pub window_at : Kind → List ℤ → ℕ → List ℤ
window_at kind samples k = take (batch_len kind 1) (drop (kind.channels * (k * duration kind)) samples)

-- The slots hold these windows.
abbrev pub HoldWindows : (ℕ → List ℤ) → List WindowSlot → Type 0
HoldWindows windows slots = (k : ℕ) (d : WindowSlot) → k < length slots → (slice_index_or slots k d).window.items ≡ windows k

-- The last setting of each slot is its own frame's.
abbrev pub HoldOwn : (ℕ → Setting) → List WindowSlot → Type 0
HoldOwn own slots = (k : ℕ) (d : WindowSlot) → k < length slots → setting_of (slice_index_or slots k d).settings 2 ≡ own k

-- the settings of the two frames before frame k of a batch
unfoldable pub trail_by : (ℕ → Setting) → Trail → ℕ → Trail
trail_by own t zero = t
trail_by own t (suc k) = record { earlier = (trail_by own t k).last; last = own k }

-- the settings of a slot
abbrev pub settings_at : (ℕ → Setting) → Trail → ℕ → List Setting
settings_at own t k = (trail_by own t k).earlier ∷ (trail_by own t k).last ∷ own k ∷ []

-- Each slot has the settings of the frames before it, and its window as it was.
pub record Passed (own : ℕ → Setting) (t : Trail) (k : ℕ) (before after : WindowSlot) : Type 0 where
  pub settings : after.settings ≡ settings_at own t k
  pub window : after.window ≡ before.window

-- the settings of the frames of these windows
abbrev pub pitches_of : Kind → (ℕ → List ℤ) → ℕ → Setting
pitches_of kind windows k = pitch_of kind (windows k)

-- what is heard in window k
abbrev pub heard_at : Kind → (ℕ → List ℤ) → Trail → ℕ → Analysis
heard_at kind windows t k = analysis_of kind (settings_at (pitches_of kind windows) t k) (windows k)

-- The slots hold what is heard in these windows.
abbrev pub HoldHeard : Kind → (ℕ → List ℤ) → Trail → List WindowSlot → Type 0
HoldHeard kind windows t slots = (k : ℕ) (d : WindowSlot) → k < length slots → (slice_index_or slots k d).analysis ≡ heard_at kind windows t k
