-- A frame's signal in one channel: from its spectrum to the outputs of the comb filter and to samples, and what is kept of it
-- (RFC 6716, 4.3.7).
use Rattle.std.specs.Prelude.{◌≡◌, ℕ, zero, suc, ◌+◌, ◌*◌, ◌/◌, ◌%◌, ◌^◌, ◌<◌, ◌≤◌, nat_eq, if◌then◌else◌, ℤ, pos, unsigned_abs, List, ◌++◌, length}
use Rattle.fixed_math.specs.Items.{item, listed}
use Rattle.post_filter.specs.Comb.{filtered}
use Rattle.post_filter.specs.Deemphasis.{output_before}
use Rattle.post_filter.specs.Samples.{sample_of}
use Rattle.celt_synth.specs.Blocks.{values_of, overlap_of, overlap_in}
use Rattle.celt_synth.specs.Filters.{frame_of}
use Rattle.celt_synth.specs.declared.signals.Form.{Form}

-- what a channel keeps of its signal: the last 1024 outputs of the comb filter, and 120 values of overlap
pub record Kept : Type 0 where
  pub history : List ℤ
  pub overlap : List ℤ

-- what a channel keeps: that, and the last output of de-emphasis
pub record Channel : Type 0 where
  pub kept : Kept
  pub memory : ℤ

-- the outputs of the comb filter behind those that were kept
unfoldable pub outputs_of : Form → Kept → List ℤ → List ℤ
outputs_of f kept xs = filtered f.before f.now f.frame (120 * f.blocks) (kept.history ++ values_of f.blocks f.transient kept.overlap xs)

-- the last output of de-emphasis before place n of the frame
unfoldable pub memory_before : Form → Channel → List ℤ → ℕ → ℤ
memory_before f c xs n = output_before c.memory (frame_of (outputs_of f c.kept xs)) n

-- the channel after the frame
unfoldable pub kept_after : Form → Kept → List ℤ → Kept
kept_after f kept xs = record {
  history = listed 1024 (λ p. item (outputs_of f kept xs) (120 * f.blocks + p));
  overlap = overlap_of f.blocks f.transient kept.overlap xs;
}

abbrev pub channel_after : Form → Channel → List ℤ → Channel
channel_after f c xs = record { kept = kept_after f c.kept xs; memory = memory_before f c xs (120 * f.blocks) }

-- the sample at place t of the frame
abbrev pub sample_at : ℤ → Form → Channel → List ℤ → ℕ → ℤ
sample_at gain f c xs t = sample_of gain (memory_before f c xs (suc t))

-- the samples of a frame in a stream of one channel, and of two in turn
unfoldable pub mono_samples : ℤ → Form → Channel → List ℤ → List ℤ
mono_samples gain f c xs = listed (120 * f.blocks) (sample_at gain f c xs)

unfoldable pub stereo_samples : ℤ → Form → Channel → Channel → List ℤ → List ℤ → List ℤ
stereo_samples gain f left right xs ys =
    listed (2 * (120 * f.blocks)) (λ p. if nat_eq (p % 2) 0 then sample_at gain f left xs (p / 2) else sample_at gain f right ys (p / 2))

-- what a buffer keeps: 1024 outputs and 120 values of overlap at its front
abbrev pub kept_in : List ℤ → Kept
kept_in buf = record { history = listed 1024 (item buf); overlap = overlap_in buf }

-- a buffer has room for the outputs that are kept, a frame and its overlap
pub record IsBuffer (buf : List ℤ) (memory : ℤ) : Type 0 where
  pub room : length buf ≡ 2104
  pub history : (p : ℕ) → p < 1024 → unsigned_abs (item buf p) ≤ 2 ^ 30
  pub overlap : (p : ℕ) → 1024 ≤ p → p < 1144 → unsigned_abs (item buf p) < 2 ^ 46
  pub memory_size : unsigned_abs memory < 2 ^ 33
