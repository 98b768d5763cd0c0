-- What is answered of a page behind the pages that were accepted.
use Rattle.std.specs.Prelude.{◌≡◌, ℕ, ◌+◌, ◌⊎◌, List, [], ◌∷◌, ◌++◌, length, drop, sum, None, Some, Result, Ok, Err}
use Rattle.celt_base.specs.declared.status.Fault.{Fault}
use Rattle.ogg_pages.specs.Fields.{Page}
use Rattle.opus_stream.specs.declared.progress.Progress.{Progress}
use Rattle.opus_stream.specs.declared.accepting.Accepted.{Accepted}
use Rattle.opus_stream.specs.declared.accepting.Given.{Given}
use Rattle.opus_stream.specs.Rooms.{Kept}
use Rattle.opus_stream.specs.Tests.{page_fault}
use Rattle.opus_stream.specs.Acceptance.{last_packets, last_span}
use Rattle.opus_stream.specs.Progressing.{StandsAfter}
use Rattle.opus_stream.specs.Tallies.{packets_on}

-- the bytes so far of the packet that is open
abbrev pub left_in : Kept → List ℕ
left_in room = drop room.left room.given

-- the packets of a page of so many packets stand in the room: those of an audio page, or none
abbrev pub Stands : ℕ → List ℕ → ℕ → List ℕ → List (List ℕ) → Type 0
Stands count lacing before bytes packets = (count ≡ length packets) × ((count ≡ 0) ⊎ ((packets ≡ packets_on lacing bytes before) × (length bytes ≡ before + sum lacing)))

-- what the last of some pages gives
pub record Gives (given : Given) (room : Kept) (page : Page) (pages : List Page) : Type 0 where
  pub packets : Stands given.packets page.lacing given.before room.given (last_packets pages)
  pub span : given.written ≡ last_span pages

-- the answer for each list of pages that the progress stands for
abbrev pub AcceptsAfter : Kept → Page → Result Accepted Fault → List Page → Type 0
AcceptsAfter room page (Err fault) before = page_fault before page ≡ Some fault
AcceptsAfter room page (Ok accepted) before =
    (page_fault before page ≡ None) × StandsAfter accepted.progress (left_in room) (before ++ page ∷ []) × Gives accepted.given room page (before ++ page ∷ [])

abbrev pub Accepts : Progress → Kept → Kept → Page → Result Accepted Fault → Type 0
Accepts p old new page answer = (before : List Page) → StandsAfter p (left_in old) before → AcceptsAfter new page answer before

-- a page that is not accepted leaves what is kept of the one before
abbrev pub Keeps : Kept → Kept → Result Accepted Fault → Type 0
Keeps old new (Ok accepted) = Unit {0}
Keeps old new (Err fault) = (new.given ≡ old.given) × (new.left ≡ old.left)
