-- What stands in a frame after the events so far: its outset, the answers, and for each channel the vector that was entered.
use Rattle.std.specs.Prelude.{ℕ, if◌then◌else◌, nat_eq, ℤ, List, []}
use Rattle.celt_base.specs.declared.coder.Enter.{Enter}
use Rattle.celt_base.specs.declared.coder.Place.{Place}
use Rattle.celt_base.specs.WalkCalls.{heard}
use Rattle.celt_base.specs.Walks.{Event, Asked, Entered}
use Rattle.celt_encode.specs.declared.answers.Answers.{Answers}
use Rattle.celt_encode.specs.Known.{told_of, no_answers}
use Rattle.celt_encode.specs.Outsets.{Outset}
use Rattle.celt_encode.specs.Vectors.{entered_vector}

pub record Standing : Type 0 where
  pub frame : Outset
  pub answers : Answers
  pub first : List ℤ
  pub second : List ℤ

-- The channel's vector of the band, as it is at this place in the frame, in the order of its blocks.
unfoldable pub entered_in : Standing → Enter → Standing
entered_in s at =
    if nat_eq at.channel 0
    then record s { first = entered_vector s.frame s.answers at }
    else record s { second = entered_vector s.frame s.answers at }

abbrev pub told_in : Standing → Place → ℤ → Standing
told_in s at answer = record s { answers = told_of s.answers at answer }

-- what stands after one more event
abbrev pub noted : Standing → Event → Standing
noted s (Asked at question answer) = told_in s at (heard at question answer)
noted s (Entered at) = entered_in s at

-- at the start of a frame
abbrev pub begun : Outset → Standing
begun f = record { frame = f; answers = no_answers; first = []; second = [] }

-- the vector that was entered in a channel
abbrev pub vector_in : Standing → ℕ → List ℤ
vector_in s channel = if nat_eq channel 0 then s.first else s.second

abbrev pub standing_by : Outset → Answers → List ℤ → List ℤ → Standing
standing_by frame answers first second = record { frame = frame; answers = answers; first = first; second = second }
