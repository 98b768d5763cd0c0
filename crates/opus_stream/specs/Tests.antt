-- The tests of a page behind the pages that were accepted, in their order (RFC 3533, section 6; RFC 7845, sections 3 to 5).
use Rattle.std.specs.Prelude.{ℕ, ◌+◌, ◌/◌, ◌%◌, ◌^◌, ◌==◌, Bool, not, ◌&&◌, ◌||◌, List, [], ◌∷◌, ◌++◌, length, drop, codes, nat_eq, nat_le, if◌then◌else◌, Option, None, Some, Result, Ok, Err}
use Rattle.std.specs.List.{starts_with, list_any}
use Rattle.celt_base.specs.declared.status.Fault.{Fault}
use Rattle.celt_base.specs.declared.status.FaultName.TheVariants.{OtherStream, PageGap, BadContinuation, BadHead, UnsupportedFamily, BadTags, BadGranule, AfterEnd}
use Rattle.opus_packets.specs.declared.header.Head.{Head}
use Rattle.opus_packets.specs.declared.header.HeadFault.{HeadFault}
use Rattle.opus_packets.specs.declared.header.HeadFault.TheVariants.{Bad, Family}
use Rattle.opus_packets.specs.Header.{head_of}
use Rattle.ogg_pages.specs.Fields.{Page}
use Rattle.opus_stream.specs.Truths.{differ}
use Rattle.opus_stream.specs.Packets.{body_in, packets_in, open_in, is_open, ends_packet, holds_packet}
use Rattle.opus_stream.specs.Audio.{fault_at, first_fault, packets_fault}
use Rattle.opus_stream.specs.Granules.{is_last, bad_granule}

-- the flags of a page that begins inside a packet, and of a first page
abbrev pub is_continued : Page → Bool
is_continued page = page.flags % 2 == 1

abbrev pub is_first : Page → Bool
is_first page = page.flags / 2 % 2 == 1

abbrev pub is_ended : List Page → Bool
is_ended pages = list_any is_last pages

-- THE ORDER OF PAGES

-- the page is of another logical stream than the one that begins with head, or a first page
abbrev pub is_other : Page → Page → Bool
is_other head page = not (page.serial == head.serial) || is_first page

-- it has the sequence number of page number `number` of that stream
abbrev pub follows : Page → ℕ → Page → Bool
follows head number page = page.sequence == (head.sequence + number) % 2 ^ 32

-- it is continued where no packet is open, or not where one is; or it ends the stream and a packet stays open
abbrev pub breaks_packets : List Page → Page → Bool
breaks_packets before page = differ (is_continued page) (is_open before) || (is_last page && is_open (before ++ page ∷ []))

abbrev pub continuation_fault : List Page → Page → Option Fault
continuation_fault before page = if breaks_packets before page then Some (fault_at BadContinuation (length before)) else None

unfoldable pub order_fault : List Page → Page → Option Fault
order_fault [] page = continuation_fault [] page
order_fault (head ∷ rest) page =
    let number = length (head ∷ rest) in
    if is_other head page then Some (fault_at OtherStream number) else
    if not (follows head number page) then Some (fault_at PageGap number) else
    continuation_fault (head ∷ rest) page

-- PAGE 0: the identification header, as one whole packet

abbrev pub read_fault : Page → Result Head HeadFault → Option Fault
read_fault page (Err Bad) = Some (fault_at BadHead 0)
read_fault page (Err Family) = Some (fault_at UnsupportedFamily 0)
read_fault page (Ok head) = if is_last page then Some (fault_at BadTags 0) else None

unfoldable pub head_fault : Page → Option Fault
head_fault page = if is_first page && holds_packet page.lacing then read_fault page (head_of page.body) else Some (fault_at BadHead 0)

-- THE COMMENT HEADER, from page 1 on. It may have any length, ends its page, and is passed over behind its letters.

abbrev pub is_tags : List ℕ → Bool
is_tags packet = nat_le 8 (length packet) && starts_with nat_eq packet (codes "OpusTags")

-- whether it is whole on these pages from page 1 on
abbrev pub has_tags : List Page → Bool
has_tags pages = list_any ends_packet pages

-- of these pages from page 1 on, those behind it: the audio pages
unfoldable pub behind_tags : List Page → List Page
behind_tags [] = []
behind_tags (page ∷ pages) = if ends_packet page then pages else behind_tags pages

-- whether the page can follow these pages from page 1 on, while it is not whole
unfoldable pub tags_go_on : List Page → Page → Bool
tags_go_on pages page =
    if ends_packet page then holds_packet page.lacing && is_tags (body_in pages ++ page.body) else not (is_last page)

-- AUDIO PAGES

unfoldable pub audio_fault : ℕ → List Page → Page → Option Fault
audio_fault number before page =
    let now = before ++ page ∷ [] in
    let count = length (packets_in before) in
    first_fault (packets_fault count (drop count (packets_in now)) (open_in now))
    (if bad_granule before now page then Some (fault_at BadGranule number) else None)

-- ALL TESTS

unfoldable pub form_fault : List Page → Page → Option Fault
form_fault [] page = head_fault page
form_fault (head ∷ rest) page =
    let number = length (head ∷ rest) in
    if has_tags rest then audio_fault number (behind_tags rest) page else
    if tags_go_on rest page then None else Some (fault_at BadTags number)

-- the first fault of a page behind these pages
unfoldable pub page_fault : List Page → Page → Option Fault
page_fault before page =
    if is_ended before then Some (fault_at AfterEnd (length before)) else first_fault (order_fault before page) (form_fault before page)
