-- The work of an encoder on windows.
use Rattle.std.specs.Prelude.{◌≡◌, ℕ, zero, suc, ◌<◌, ◌≤◌, List, length, slice_index_or}
use Rattle.celt_base.specs.declared.kind.Kind.{Kind}
use Rattle.celt_analysis.specs.Analyses.{Analysis}
use Rattle.celt_analysis.specs.Batches.{AreWindows}
use Rattle.celt_analysis.specs.Signals.{window_size}
use Rattle.celt_analysis.specs.declared.batch.WindowSlot.{WindowSlot}
use Rattle.celt_encode.specs.Encoders.{EncoderState, after_frame}
use Rattle.celt_session.specs.declared.encoder_work.EncoderWork.{EncoderWork}
use Rattle.celt_session.specs.EncodedFrames.{Footing, encoded_frames}
use Rattle.celt_session.specs.FrameWorks.{FrameWorks}

-- The encoder after so many frames of analyses, each of so many bytes.
unfoldable pub encoder_after : EncoderState → (ℕ → Analysis) → ℕ → ℕ → EncoderState
encoder_after e analyses bytes zero = e
encoder_after e analyses bytes (suc k) = after_frame (encoder_after e analyses bytes k) (analyses k) bytes

-- An encoder that stands where an encoding does.
pub record IsOn (kind : Kind) (e : EncoderState) (s : Footing) : Type 0 where
  pub kind_is : e.kind ≡ kind
  pub shared : e.shared ≡ s.shared
  pub made : e.made ≡ s.made

pub record Shows (w : EncoderWork) (s : Footing) : Type 0 where
  pub encoder : IsOn w.kind w.encoder s
  pub earlier : w.trail.earlier ≡ s.earlier
  pub last : w.trail.last ≡ s.last

-- It makes frames of the kind that it has room for, 16 at once.
pub record Makes (w : EncoderWork) (kind : Kind) : Type 0 where
  pub kind_is : w.kind ≡ kind
  pub encoder : w.encoder.kind ≡ w.kind
  pub slots : length w.slots.items ≡ 16
  pub windows : AreWindows w.kind w.slots.items

-- Windows that can be shortened to those of a kind.
abbrev pub AreRooms : Kind → List WindowSlot → Type 0
AreRooms kind slots = (k : ℕ) (d : WindowSlot) → k < length slots → window_size kind ≤ length (slice_index_or slots k d).window.items

-- An encoder of this kind can take the place of its own.
pub record CanTurn (w : EncoderWork) (e : EncoderState) (kind : Kind) : Type 0 where
  pub encoder : e.kind ≡ kind
  pub slots : length w.slots.items ≡ 16
  pub windows : AreRooms kind w.slots.items

abbrev pub encoder_work : FrameWorks EncoderWork
encoder_work = record { function = encoded_frames; Shows = Shows; Makes = Makes }
