-- What the tests of a page's own fields answer.
use Rattle.std.specs.Prelude.{◌≡◌, ℕ, ◌-◌, ◌==◌, Bool, List, [], ◌∷◌, length, slice_index, codes, nat_eq, None, Some, Result, Ok, Err}
use Rattle.std.specs.Cmp.Lexicographic.{pointwise}
use Rattle.celt_base.specs.declared.status.Fault.{Fault}
use Rattle.opus_packets.specs.declared.header.Head.{Head}
use Rattle.opus_packets.specs.Header.{head_of}
use Rattle.ogg_pages.specs.Fields.{Page}
use Rattle.opus_stream.specs.Tests.{head_fault}

-- whether a packet is open behind these lacing values, where one was or was not before them
abbrev pub open_after : Bool → List ℕ → Bool
open_after before [] = before
open_after before (value ∷ values) = slice_index (value ∷ values) (length (value ∷ values) - 1) == 255

-- the identification header, or the fault of page 0
abbrev pub IsHead : Page → Result Head Fault → Type 0
IsHead page (Ok head) = (head_fault page ≡ None) × (head_of page.body ≡ Ok head)
IsHead page (Err fault) = head_fault page ≡ Some fault

-- whether these are the letters that begin a comment header
abbrev pub is_letters : List ℕ → Bool
is_letters front = pointwise nat_eq (codes "OpusTags") front
