-- The reading of a frame: the one list in order whose answers are the frame's (RFC 6716, sections 4.1 and 4.3).
use Rattle.std.specs.Prelude.{◌≡◌, ℕ, List, [], length, Option, Some}
use Rattle.celt_base.specs.declared.kind.Kind.{Kind}
use Rattle.celt_base.specs.Intervals.{whole}
use Rattle.celt_base.specs.Questions.{Answered, interval_of}
use Rattle.celt_base.specs.WalkCalls.{ChooserCalls}
use Rattle.celt_base.specs.WalkOrders.{Ends, InOrder, outcome}
use Rattle.frame_symbols.specs.declared.fields.Fields.{Fields}
use Rattle.frame_symbols.specs.declared.recorder.Answer.{Answer}
use Rattle.frame_symbols.specs.Computing.{ReadBy, read_by}
use Rattle.frame_symbols.specs.Frames.{Sound, frame_script, frame_next, first_pace}
use Rattle.frame_symbols.specs.Held.{HoldsFrame}
use Rattle.frame_symbols.specs.Recorders.{WalkedList}
use Rattle.range_coder.specs.declared.writer.Writer.{Writer}
use Rattle.range_coder.specs.Reading.{AnswersFrom}
use Rattle.range_coder.specs.Writers.{HasCoded, writer_calls}

-- The list is in order, nothing follows it, and each of its answers is the frame's.
pub record IsReading (kind : Kind) (frame : List ℕ) (list : List Answered) : Type 0 where
  pub order : InOrder (frame_script kind (length frame)) first_pace list
  pub ends : frame_next kind (length frame) list ≡ Ends
  pub answers : AnswersFrom frame whole list

-- The reading, computed: the list, and what it comes to.
unfoldable pub reading_of : Kind → List ℕ → ReadBy (Option Sound)
reading_of kind frame = read_by frame (frame_script kind (length frame)) first_pace whole

-- The width of the interval at its end.
abbrev pub range_of : Kind → List ℕ → ℕ
range_of kind frame = (interval_of (reading_of kind frame).list).width

-- The fields hold what the script of a frame of `len` bytes comes to after the list.
pub record HoldsReading (kind : Kind) (len : ℕ) (list : List Answered) (f : Fields) : Type 0 where
  pub order : InOrder (frame_script kind len) first_pace list
  pub value : Option Sound
  pub outcome_is : outcome (frame_script kind len) first_pace list ≡ Some value
  pub holds : HoldsFrame kind f value

-- A chooser was taken through the questions of a frame of `len` bytes, each answered by a writer that began anew.
pub record Writing {H : Type 0} (chooser : ChooserCalls H) (kind : Kind) (len : ℕ) (list : List Answer) (f : Fields) (h k : H) : Type 0 where
  pub before : Writer
  pub now : Writer
  pub begun : HasCoded before []
  pub walked : WalkedList writer_calls chooser kind len list f before h now k
