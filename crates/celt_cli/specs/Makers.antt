-- The making of frames of windows: the function of a window, which frames are replaced by the silent one, and the states that a maker shows.
use Rattle.std.specs.Prelude.{◌≡◌, ℕ, ℤ, Bool, List}
use Rattle.celt_base.specs.declared.kind.Kind.{Kind}
use Rattle.celt_session.specs.Frames.{kind_of}
use Rattle.celt_session.specs.FrameFunctions.{FrameFunction}

-- the kind of the frames of `gen`: 960 samples of two channels in the full band, and their number of bytes
abbrev pub gen_kind : Kind
gen_kind = kind_of 252

abbrev pub gen_bytes : ℕ
gen_bytes = 160

pub record Makers (M : Type 0) : Type 1 where
  pub function : FrameFunction
  pub is_replaced : function.State → List ℤ → Bool
  pub Shows : M → function.State → Type 0

-- what a call of a maker does
pub record Made {M : Type 0} (m : Makers M) (s : m.function.State) (window : List ℤ) (now : M) (room : List ℕ) (replaced : Bool) : Type 0 where
  pub shows : m.Shows now (m.function.next s gen_kind gen_bytes window)
  pub frame_is : room ≡ m.function.frame s gen_kind gen_bytes window
  pub replaced_is : replaced ≡ m.is_replaced s window
