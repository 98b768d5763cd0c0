-- What the symbols of a frame are: new, those of a kind and a number of bytes, or those of a frame that was read.
use Rattle.std.specs.Prelude.{◌≡◌, ℕ, List, [], length, None, Some, false}
use Rattle.celt_base.specs.declared.kind.Kind.{Kind}
use Rattle.celt_base.specs.Paces.{pace_of, tell_of}
use Rattle.celt_base.specs.Questions.{Answered, interval_of}
use Rattle.frame_symbols.specs.declared.symbols.Symbols.{Symbols}
use Rattle.frame_symbols.specs.Blanks.{IsBlank}
use Rattle.frame_symbols.specs.Held.{HoldsFrame}
use Rattle.frame_symbols.specs.Readings.{IsReading, HoldsReading, reading_of, range_of}
use Rattle.frame_symbols.specs.Recorders.{answered_of}

-- Symbols of no frame.
pub record AreNew (s : Symbols) : Type 0 where
  pub list : s.list.items ≡ []
  pub kind : s.kind ≡ None
  pub silent : s.fields.silent ≡ false
  pub blank : IsBlank s.fields
  pub range : s.range ≡ 0
  pub tell : s.tell ≡ 0

-- The questions with their answers.
abbrev pub answers_in : Symbols → List Answered
answers_in s = answered_of s.list.items

-- The symbols are those of a frame of this kind and of `len` bytes: each of them is a function of these and of the answers.
pub record AreOf (kind : Kind) (len : ℕ) (s : Symbols) : Type 0 where
  pub kind_is : s.kind ≡ Some kind
  pub fields : HoldsReading kind len (answers_in s) s.fields
  pub range_is : s.range ≡ (interval_of (answers_in s)).width
  pub tell_is : s.tell ≡ tell_of (pace_of (interval_of (answers_in s)))

-- The symbols are those of the reading of this frame.
pub record AreRead (kind : Kind) (frame : List ℕ) (s : Symbols) : Type 0 where
  pub reading : IsReading kind frame (answers_in s)
  pub are : AreOf kind (length frame) s
  pub list_is : answers_in s ≡ (reading_of kind frame).list
  pub holds : HoldsFrame kind s.fields (reading_of kind frame).value
  pub range_is : s.range ≡ range_of kind frame
