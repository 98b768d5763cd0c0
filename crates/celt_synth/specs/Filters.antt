-- Samples behind de-emphasis (RFC 6716, 4.3.7.2).
use Rattle.std.specs.Prelude.{◌≡◌, ◌≢◌, ℕ, suc, ◌+◌, ◌*◌, ◌<◌, ℤ, List}
use Rattle.fixed_math.specs.Items.{item}
use Rattle.post_filter.specs.Deemphasis.{output_before}
use Rattle.post_filter.specs.Samples.{sample_of}

-- the signal of a frame behind 1024 places
abbrev pub frame_of : List ℤ → ℕ → ℤ
frame_of xs t = item xs (1024 + t)

-- the samples of a signal of n values stand at every stride-th place from start on, and each other place is as before
pub record AreEmitted (gain memory : ℤ) (x : ℕ → ℤ) (start stride n : ℕ) (old new : List ℤ) : Type 0 where
  pub here : (t : ℕ) → t < n → item new (start + stride * t) ≡ sample_of gain (output_before memory x (suc t))
  pub others : (p : ℕ) → ((t : ℕ) → t < n → p ≢ start + stride * t) → item new p ≡ item old p
