-- Frames that are made of windows of samples, one after the other, by a function of one window.
use Rattle.std.specs.Prelude.{◌≡◌, ℕ, ℤ, zero, suc, ◌+◌, ◌≤◌, List, [], ◌∷◌, ◌++◌, length}
use Rattle.celt_base.specs.declared.kind.Kind.{Kind}

-- A function of a window: from the state, the kind of the frame, its number of bytes and the window to the next state and to the
-- frame, which has that number of bytes.
pub record FrameFunction : Type 1 where
  pub State : Type 0
  pub start : State
  pub next : State → Kind → ℕ → List ℤ → State
  pub frame : State → Kind → ℕ → List ℤ → List ℕ
  pub sized : (s : State) (kind : Kind) (bytes : ℕ) (window : List ℤ) → 2 ≤ bytes → length (frame s kind bytes window) ≡ bytes

-- Frames of one kind: the state before the first of them, and the window and the number of bytes of each by its number from 0.
pub record Row (f : FrameFunction) : Type 0 where
  pub kind : Kind
  pub from : f.State
  pub window : ℕ → List ℤ
  pub bytes : ℕ → ℕ

-- the state before frame t
unfoldable pub state_before : (f : FrameFunction) → Row f → ℕ → f.State
state_before f row zero = row.from
state_before f row (suc t) = f.next (state_before f row t) row.kind (row.bytes t) (row.window t)

-- frame t
abbrev pub frame_at : (f : FrameFunction) → Row f → ℕ → List ℕ
frame_at f row t = f.frame (state_before f row t) row.kind (row.bytes t) (row.window t)

-- so many frames from frame t on
unfoldable pub frames_from : (ℕ → List ℕ) → ℕ → ℕ → List (List ℕ)
frames_from frame t zero = []
frames_from frame t (suc count) = frames_from frame t count ++ frame (t + count) ∷ []
