-- The analysis of the frames of an input, over all its samples. Times are counted from 1920 samples before the first of the
-- input, where frames of every size begin; outside the input each sample is 0.
use Rattle.std.specs.Prelude.{ℕ, ◌+◌, ◌-◌, ◌*◌, ◌/◌, ◌%◌, nat_eq, nat_lt, if◌then◌else◌, ℤ, pos, ◌+ℤ◌, List, [], ◌∷◌}
use Rattle.std.specs.Int.{int_shr}
use Rattle.celt_base.specs.declared.kind.Kind.{Kind}
use Rattle.celt_base.specs.declared.state.Setting.{Setting}
use Rattle.fixed_math.specs.Items.{item, listed}
use Rattle.celt_analysis.specs.Analyses.{Analysis, analysed}
use Rattle.celt_analysis.specs.Pitch.{IsPitch}
use Rattle.celt_analysis.specs.Signals.{emphasized, filtered, frame_size, off, window_size}

-- the sample of channel c at a time, of samples whose channels take turns
unfoldable pub sample_at : ℕ → List ℤ → ℕ → ℕ → ℤ
sample_at channels samples c time = if nat_lt time 1920 then pos 0 else item samples (channels * (time - 1920) + c)

-- frame t of n samples begins at this time
abbrev pub start_of : ℕ → ℕ → ℕ
start_of n t = 1920 + t * n

-- the setting of the frame of n samples that holds a time, and of those before the input: they are off
unfoldable pub setting_at : ℕ → (ℕ → Setting) → ℕ → Setting
setting_at n settings k = if nat_lt k (1920 / n) then off else settings (k - 1920 / n)

-- the signal after pre-emphasis and pre-filter: each frame fades from the setting of the frame before
unfoldable pub filtered_at : ℕ → (ℕ → Setting) → (ℕ → ℤ) → ℕ → ℤ
filtered_at n settings x time = filtered (setting_at n settings (time / n - 1)) (setting_at n settings (time / n)) (time % n) (emphasized x) time

-- the values of frame t and the 120 before them, in channel c
abbrev pub values_at : Kind → (ℕ → Setting) → List ℤ → ℕ → ℕ → List ℤ
values_at kind settings samples t c =
    listed (frame_size kind + 120) (λ i. filtered_at (frame_size kind) settings (sample_at kind.channels samples c) (start_of (frame_size kind) t - 120 + i))

-- what is found in frame t
unfoldable pub frame_analysis : Kind → (ℕ → Setting) → List ℤ → ℕ → Analysis
frame_analysis kind settings samples t = analysed kind (settings t) (values_at kind settings samples t)

-- the samples of the one channel, or the middle of the two
unfoldable pub middle_at : ℕ → List ℤ → ℕ → ℤ
middle_at channels samples time =
    if nat_eq channels 1 then sample_at 1 samples 0 time else int_shr (sample_at 2 samples 0 time +ℤ sample_at 2 samples 1 time) 1

-- the setting of frame t
abbrev pub IsFramePitch : Kind → List ℤ → ℕ → Setting → Type 0
IsFramePitch kind samples t r = IsPitch (middle_at kind.channels samples) (start_of (frame_size kind) t) (frame_size kind) r

-- the window of frame t: 1145 samples of each channel before those of the frame
unfoldable pub window_of : Kind → List ℤ → ℕ → List ℤ
window_of kind samples t =
    listed (window_size kind) (λ p. sample_at kind.channels samples (p % kind.channels) (start_of (frame_size kind) t - 1145 + p / kind.channels))

-- the settings of the two frames before frame t, and its own
unfoldable pub settings_of : Kind → (ℕ → Setting) → ℕ → List Setting
settings_of kind settings t =
    setting_at (frame_size kind) settings (t + 1920 / frame_size kind - 2)
    ∷ setting_at (frame_size kind) settings (t + 1920 / frame_size kind - 1)
    ∷ settings t
    ∷ []
