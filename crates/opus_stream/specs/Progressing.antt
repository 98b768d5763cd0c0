-- What is kept of the pages that were accepted.
use Rattle.std.specs.Prelude.{◌≡◌, ℕ, pos, ◌+◌, ◌%◌, ◌^◌, ◌==◌, ◌&&◌, ◌||◌, not, Bool, true, false, List, [], ◌∷◌, length, take, drop, sum, if◌then◌else◌, Option, None, Some}
use Rattle.std.specs.List.{list_any}
use Rattle.celt_base.specs.declared.status.Fault.{Fault}
use Rattle.celt_base.specs.declared.status.FaultName.TheVariants.{OtherStream, PageGap, BadContinuation}
use Rattle.opus_packets.specs.declared.header.Head.{Head}
use Rattle.ogg_pages.specs.Fields.{Page}
use Rattle.opus_stream.specs.declared.progress.Audio.{Audio}
use Rattle.opus_stream.specs.declared.progress.Progress.{Progress}
use Rattle.opus_stream.specs.Packets.{lacing_in, body_in, packets_in, open_in, is_open, ends_packet}
use Rattle.opus_stream.specs.Audio.{fault_at}
use Rattle.opus_stream.specs.Granules.{is_last, samples_on, start_in}
use Rattle.opus_stream.specs.Tests.{is_continued, is_first, is_ended, has_tags, behind_tags}
use Rattle.opus_stream.specs.Acceptance.{size_of, head_in}
use Rattle.opus_stream.specs.Truths.{differ}
use Rattle.opus_stream.specs.Pages.{open_after}

-- the tests of a page's order, by what is kept
abbrev pub breaks_packets : Progress → Page → Bool
breaks_packets p page = differ (is_continued page) p.is_open || (is_last page && open_after p.is_open page.lacing)

abbrev pub continues_by : Progress → Page → Option Fault
continues_by p page = if breaks_packets p page then Some (fault_at BadContinuation p.pages) else None

unfoldable pub order_by : Progress → Page → Option Fault
order_by p page =
    if p.pages == 0 then continues_by p page else
    if not (page.serial == p.serial) || is_first page then Some (fault_at OtherStream p.pages) else
    if not (page.sequence == p.sequence) then Some (fault_at PageGap p.pages) else
    continues_by p page

pub record IsNew (p : Progress) : Type 0 where
  pub pages : p.pages ≡ 0
  pub bytes : p.bytes ≡ 0
  pub opened : p.is_open ≡ false
  pub ended : p.is_ended ≡ false
  pub head : p.head ≡ None
  pub tagged : p.is_tagged ≡ false
  pub packets : p.audio.packets ≡ 0
  pub samples : p.audio.samples ≡ 0
  pub base : p.audio.base ≡ None

pub record IsNext (p : Progress) (page : Page) (size : ℕ) (head : Option Head) (tagged : Bool) (audio : Audio) (next : Progress) : Type 0 where
  pub pages : next.pages ≡ p.pages + 1
  pub bytes : next.bytes ≡ p.bytes + size
  pub serial : next.serial ≡ page.serial
  pub sequence : next.sequence ≡ (page.sequence + 1) % 2 ^ 32
  pub opened : next.is_open ≡ open_after p.is_open page.lacing
  pub ended : next.is_ended ≡ is_last page
  pub head_is : next.head ≡ head
  pub tagged_is : next.is_tagged ≡ tagged
  pub audio_is : next.audio ≡ audio

-- THE PAGES THAT THE PROGRESS STANDS FOR

-- the numbers that the first page gives, once it is there
abbrev pub Numbers : Progress → List Page → Type 0
Numbers p [] = Unit {0}
Numbers p (head ∷ rest) = (p.serial ≡ head.serial) × (p.sequence ≡ (head.sequence + length (head ∷ rest)) % 2 ^ 32)

-- by order and flags
pub record IsPlaced (p : Progress) (before : List Page) : Type 0 where
  pub pages : p.pages ≡ length before
  pub bytes : p.bytes ≡ size_of before
  pub numbers : Numbers p before
  pub opened : p.is_open ≡ is_open before
  pub ended : p.is_ended ≡ is_ended before
  pub head : p.head ≡ head_in before
  pub tagged : p.is_tagged ≡ has_tags (drop 1 before)

-- where the stream begins, once a packet has ended
abbrev pub IsBase : Option ℕ → List Page → Type 0
IsBase None pages = list_any ends_packet pages ≡ false
IsBase (Some base) pages = (list_any ends_packet pages ≡ true) × (start_in pages ≡ pos base)

-- by the audio packets; `left` are the bytes so far of the one that is open
pub record IsHeard (audio : Audio) (left : List ℕ) (pages : List Page) : Type 0 where
  pub packets : audio.packets ≡ length (packets_in pages)
  pub samples : audio.samples ≡ samples_on pages
  pub left_is : left ≡ open_in pages
  pub full : length (body_in pages) ≡ sum (lacing_in pages)
  pub base : is_ended pages ≡ false → IsBase audio.base pages

-- by the comment header, of which the first eight bytes are kept
pub record IsCommented (audio : Audio) (left : List ℕ) (pages : List Page) : Type 0 where
  pub packets : audio.packets ≡ 0
  pub samples : audio.samples ≡ 0
  pub base : audio.base ≡ None
  pub left_is : left ≡ take 8 (body_in pages)

abbrev pub IsRead : Bool → Audio → List ℕ → List Page → Type 0
IsRead true audio left pages = IsHeard audio left (behind_tags pages)
IsRead false audio left pages = IsCommented audio left pages

pub record StandsAfter (p : Progress) (left : List ℕ) (before : List Page) : Type 0 where
  pub placed : IsPlaced p before
  pub read : IsRead (has_tags (drop 1 before)) p.audio left (drop 1 before)
