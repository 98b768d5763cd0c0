-- The lines of `ranges`: one for each frame of each accepted page, with its number, its length in bytes and its final range.
use Rattle.std.specs.Prelude.{◌≡◌, ℕ, ◌+◌, List, [], ◌∷◌, ◌++◌, length, if◌then◌else◌, Option, Result, Ok, Err}
use Rattle.std.specs.Fmt.{decimal}
use Rattle.std.specs.Io.KnownBytes.{Appends}
use Rattle.celt_base.specs.declared.kind.Kind.{Kind}
use Rattle.celt_base.specs.declared.outside.Failed.{Failed}
use Rattle.celt_base.specs.Outside.{AppendsFront}
use Rattle.frame_symbols.specs.Readings.{range_of}
use Rattle.celt_session.specs.PageFunctions.{PageFunction}
use Rattle.celt_session.specs.Frames.{Frame, is_concealed, page_frames}
use Rattle.celt_session.specs.Texts.{hex_digits}

-- the final range of a frame; one that is concealed has none, and 0 is written
abbrev pub final_range : (Kind → List ℕ → ℕ) → Frame → ℕ
final_range range_of frame = if is_concealed frame.bytes then 0 else range_of frame.kind frame.bytes

-- a frame's number, its length and its final range
unfoldable pub line_of : ℕ → ℕ → ℕ → List ℕ
line_of number len range = decimal number ++ 32 ∷ (decimal len ++ 32 ∷ (hex_digits 8 range ++ 10 ∷ []))

-- the lines of frames, the first of which has this number
unfoldable pub lines_from : (Kind → List ℕ → ℕ) → ℕ → List Frame → List ℕ
lines_from range_of number [] = []
lines_from range_of number (frame ∷ frames) =
    line_of number (length frame.bytes) (final_range range_of frame) ++ lines_from range_of (number + 1) frames

-- how many pages and frames came before
pub record Counted : Type 0 where
  pub pages : ℕ
  pub frames : ℕ

-- the lines of a page, where the final range of each frame that is not concealed is known
abbrev pub lines_function : (Kind → List ℕ → ℕ) → PageFunction
lines_function range_of = record {
  State = Counted;
  next = λ s page. record { pages = s.pages + 1; frames = s.frames + length (page_frames page.packets) };
  says = λ s page. lines_from range_of s.frames (page_frames page.packets);
}

-- the lines of frames were written, the first of which has this number, and the number behind them is answered
abbrev pub WritesLines : ℕ → List Frame → Option (List ℕ) → Option (List ℕ) → Result ℕ Failed → Type 0
WritesLines first frames old new (Ok next) = (next ≡ first + length frames) × Appends old new (lines_from range_of first frames)
WritesLines first frames old new (Err failure) = AppendsFront old new (lines_from range_of first frames)
