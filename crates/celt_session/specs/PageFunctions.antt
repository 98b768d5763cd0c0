-- What is made of the accepted pages of a list of bytes, one after the other, by a function of one page.
use Rattle.std.specs.Prelude.{ℕ, List, [], ◌∷◌, ◌++◌, length, drop, Option, None, Some, if◌then◌else◌}
use Rattle.celt_base.specs.declared.status.Fault.{Fault}
use Rattle.ogg_pages.specs.Fields.{Page}
use Rattle.opus_stream.specs.Acceptance.{accepted, fault_of, is_end_name, end_by}
use Rattle.celt_session.specs.Pages.{Heard, heard_after}

-- A function of a page: from the state and the page to the next state and the bytes that the page gives.
pub record PageFunction : Type 1 where
  pub State : Type 0
  pub next : State → Heard → State
  pub says : State → Heard → List ℕ

-- ---- PAGES IN ORDER

-- the state behind them
unfoldable pub state_after : (f : PageFunction) → f.State → List Heard → f.State
state_after f s [] = s
state_after f s (page ∷ pages) = state_after f (f.next s page) pages

-- the bytes that they give
unfoldable pub says_of : (f : PageFunction) → f.State → List Heard → List ℕ
says_of f s [] = []
says_of f s (page ∷ pages) = f.says s page ++ says_of f (f.next s page) pages

-- ---- A LIST OF BYTES

-- what the first pages of a stream give
unfoldable pub said : (f : PageFunction) → f.State → List Page → List ℕ
said f start pages = says_of f start (heard_after [] pages)

-- what is written before the end of the bytes is known, and of all of them
unfoldable pub running : (f : PageFunction) → f.State → List ℕ → List ℕ
running f start bytes = said f start (accepted bytes)

unfoldable pub full : (f : PageFunction) → f.State → List ℕ → List ℕ
full f start bytes = running f start bytes

-- what a list of bytes gives behind what one of its fronts gives
unfoldable pub added_by : (f : PageFunction) → f.State → List ℕ → List ℕ → List ℕ
added_by f start bytes now = drop (length (running f start bytes)) (running f start now)

-- the fault of a stream, where more bytes do not mend it, and where they do
abbrev pub lasting : Option Fault → Option Fault
lasting None = None
lasting (Some fault) = if is_end_name fault.name then None else Some fault

abbrev pub fault_now : List ℕ → Option Fault
fault_now bytes = lasting (fault_of bytes)

abbrev pub end_fault : List ℕ → Option Fault
end_fault bytes = end_by (fault_of bytes)

-- what is added of pieces that are fed one after the other, behind the bytes before
unfoldable pub added_in_pieces : (f : PageFunction) → f.State → List ℕ → List (List ℕ) → List ℕ
added_in_pieces f start bytes [] = []
added_in_pieces f start bytes (piece ∷ pieces) = added_by f start bytes (bytes ++ piece) ++ added_in_pieces f start (bytes ++ piece) pieces
