-- What a whole list of bytes gives: the pages that are accepted, the earliest fault, and what each page gives. The bytes are
-- first read as pages; all else is said of the list of pages.
use Rattle.std.specs.Prelude.{ℕ, ◌+◌, ◌-◌, Bool, true, false, List, [], ◌∷◌, ◌++◌, length, take, drop, sum_by, nat_lt, if◌then◌else◌, Option, None, Some, Result, Ok, Err}
use Rattle.std.specs.List.{slice_range}
use Rattle.celt_base.specs.declared.status.Fault.{Fault}
use Rattle.celt_base.specs.declared.status.FaultName.{FaultName}
use Rattle.celt_base.specs.declared.status.FaultName.TheVariants as names
use Rattle.ogg_pages.specs.declared.page.PageFault.{PageFault}
use Rattle.ogg_pages.specs.declared.page.PageFault.TheVariants as page_faults
use Rattle.ogg_pages.specs.Fields.{Page}
use Rattle.ogg_pages.specs.Stream.{Ending, Sound, Cut, Broken, stream}
use Rattle.opus_packets.specs.declared.header.Head.{Head}
use Rattle.opus_packets.specs.declared.header.HeadFault.{HeadFault}
use Rattle.opus_packets.specs.Header.{head_of}
use Rattle.opus_stream.specs.declared.answers.Accept.{Accept}
use Rattle.opus_stream.specs.declared.answers.Accept.TheVariants as answers
use Rattle.opus_stream.specs.declared.answers.Span.{Span}
use Rattle.opus_stream.specs.Packets.{packets_in}
use Rattle.opus_stream.specs.Audio.{fault_at, first_fault}
use Rattle.opus_stream.specs.Granules.{span_on}
use Rattle.opus_stream.specs.Tests.{is_ended, behind_tags, page_fault}

abbrev pub accepted_by : Option Fault → Page → List Page → List Page
accepted_by None page pages = page ∷ pages
accepted_by (Some fault) page pages = []

-- the pages up to the first that has a fault, after the pages before
unfoldable pub accepted_after : List Page → List Page → List Page
accepted_after before [] = []
accepted_after before (page ∷ pages) = accepted_by (page_fault before page) page (accepted_after (before ++ page ∷ []) pages)

abbrev pub name_of : PageFault → FaultName
name_of page_faults.BadCapture = names.BadCapture
name_of page_faults.BadPageVersion = names.BadPageVersion
name_of page_faults.BadChecksum = names.BadChecksum

-- what follows all pages: behind a last page any byte is a fault, and without one the end is
abbrev pub end_fault : Bool → ℕ → Ending → Option Fault
end_fault true number Sound = None
end_fault true number Cut = Some (fault_at names.AfterEnd number)
end_fault true number (Broken fault) = Some (fault_at names.AfterEnd number)
end_fault false number Sound = Some (fault_at names.Truncated number)
end_fault false number Cut = Some (fault_at names.Truncated number)
end_fault false number (Broken fault) = Some (fault_at (name_of fault) number)

-- the first fault of the pages after those before, and of what follows them
unfoldable pub fault_after : List Page → List Page → Ending → Option Fault
fault_after before [] ending = end_fault (is_ended before) (length before) ending
fault_after before (page ∷ pages) ending = first_fault (page_fault before page) (fault_after (before ++ page ∷ []) pages ending)

-- the accepted pages of a list of bytes
unfoldable pub accepted : List ℕ → List Page
accepted bytes = accepted_after [] (stream bytes).pages

-- its earliest fault
unfoldable pub fault_of : List ℕ → Option Fault
fault_of bytes = fault_after [] (stream bytes).pages (stream bytes).ending

-- a fault that more bytes could mend
abbrev pub is_end_name : FaultName → Bool
is_end_name names.Truncated = true
is_end_name _ = false

abbrev pub answer_by : Option Fault → Accept
answer_by None = answers.Need
answer_by (Some fault) = if is_end_name fault.name then answers.Need else answers.Fault fault

-- what is answered over the bytes when so many pages were given
unfoldable pub answer_of : List ℕ → ℕ → Accept
answer_of bytes given = if nat_lt given (length (accepted bytes)) then answers.Page else answer_by (fault_of bytes)

abbrev pub end_by : Option Fault → Option Fault
end_by None = None
end_by (Some fault) = if is_end_name fault.name then Some fault else None

-- the fault of bytes that end here
unfoldable pub end_fault_of : List ℕ → Option Fault
end_fault_of bytes = end_by (fault_of bytes)

-- WHAT THE LAST OF SOME ACCEPTED PAGES GIVES

-- the pages before the last
abbrev pub before_last : List Page → List Page
before_last pages = take (length pages - 1) pages

abbrev pub page_size : Page → ℕ
page_size page = 27 + length page.lacing + length page.body

-- where so many pages end
abbrev pub size_of : List Page → ℕ
size_of pages = sum_by page_size pages

-- the bytes of the last page
unfoldable pub last_bytes : List ℕ → List Page → List ℕ
last_bytes bytes pages = slice_range bytes (size_of (before_last pages)) (size_of pages)

-- the audio pages
abbrev pub audio_in : List Page → List Page
audio_in pages = behind_tags (drop 1 pages)

abbrev pub audio_packets : List Page → List (List ℕ)
audio_packets pages = packets_in (audio_in pages)

-- the audio packets that end on the last page
unfoldable pub last_packets : List Page → List (List ℕ)
last_packets pages = drop (length (audio_packets (before_last pages))) (audio_packets pages)

abbrev pub ok_head : Result Head HeadFault → Option Head
ok_head (Ok head) = Some head
ok_head (Err fault) = None

-- the identification header
unfoldable pub head_in : List Page → Option Head
head_in [] = None
head_in (page ∷ pages) = ok_head (head_of page.body)

abbrev pub preskip_of : Option Head → ℕ
preskip_of None = 0
preskip_of (Some head) = head.preskip

-- the samples of the last page that are written
unfoldable pub last_span : List Page → Span
last_span pages = span_on (preskip_of (head_in pages)) (audio_in (before_last pages)) (audio_in pages)

-- the pages that were given
abbrev pub given_pages : List ℕ → ℕ → List Page
given_pages bytes given = take given (accepted bytes)
