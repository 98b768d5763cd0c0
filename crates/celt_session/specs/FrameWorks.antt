-- The work on windows: the function of a window that it computes, and what a call of it does.
use Rattle.std.specs.Prelude.{◌≡◌, ℕ, ℤ, ◌+◌, ◌*◌, List, take, drop}
use Rattle.std.specs.List.{concat}
use Rattle.celt_base.specs.declared.kind.Kind.{Kind}
use Rattle.celt_session.specs.declared.batch.Batch.{Batch}
use Rattle.celt_session.specs.Frames.{duration}
use Rattle.celt_session.specs.FrameFunctions.{FrameFunction, Row, state_before, frame_at, frames_from}
use Rattle.celt_session.specs.Windows.{lead}

-- The function of a window, the states that an object shows (what else it holds does not matter), and the kinds of frames that it can
-- make.
pub record FrameWorks (W : Type 0) : Type 1 where
  pub function : FrameFunction
  pub Shows : W → function.State → Type 0
  pub Makes : W → Kind → Type 0

-- the samples of the windows of so many frames, each of which begins one frame behind that before
abbrev pub batch_len : Kind → ℕ → ℕ
batch_len kind count = kind.channels * (lead + count * duration kind)

-- the frames of a batch, from a state on: all have one length, and their windows stand in its samples
abbrev pub batch_row : (f : FrameFunction) → f.State → Batch → List ℤ → Row f
batch_row f s batch samples = record {
  kind = batch.kind;
  from = s;
  window = λ t. take (batch_len batch.kind 1) (drop (batch.kind.channels * (t * duration batch.kind)) samples);
  bytes = λ t. batch.bytes;
}

-- what a call of the work on a batch does
pub record Framed {W : Type 0} (w : FrameWorks W) (s : w.function.State) (batch : Batch) (samples : List ℤ) (now : W) (out : List ℕ) : Type 0 where
  pub shows : w.Shows now (state_before w.function (batch_row w.function s batch samples) batch.count)
  pub frames : out ≡ concat (frames_from (frame_at w.function (batch_row w.function s batch samples)) 0 batch.count)
