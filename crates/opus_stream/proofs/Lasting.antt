-- Pages accepted one after the other, and the earliest fault.
use Rattle.std.proofs.Common.{◌≡◌, ℕ, ◌+◌, Bool, true, false, List, [], ◌∷◌, ◌++◌, length, refl, sym, ◌∙◌, ap, subst, append_assoc, Option, Some, None, Result, Ok, Err}
use Rattle.std.specs.Prelude.{not, ◌&&◌, nat_lt, slice_index, if◌then◌else◌}
use Rattle.celt_base.specs.declared.status.Fault.{Fault}
use Rattle.celt_base.specs.declared.status.FaultName.TheVariants as names
use Rattle.opus_packets.specs.Cut.{Cut}
use Rattle.opus_packets.specs.declared.fault.PacketFault.{PacketFault}
use Rattle.opus_packets.specs.Packet.{config_of, cut_of}
use Rattle.opus_packets.specs.declared.header.Head.{Head}
use Rattle.opus_packets.specs.declared.header.HeadFault.{HeadFault}
use Rattle.opus_packets.specs.declared.header.HeadFault.TheVariants.{Bad, Family}
use Rattle.opus_packets.specs.Header.{head_of}
use Rattle.ogg_pages.specs.declared.page.PageFault.{PageFault}
use Rattle.ogg_pages.specs.declared.page.PageFault.TheVariants as page_faults
use Rattle.ogg_pages.specs.Fields.{Page}
use Rattle.ogg_pages.specs.Stream.{Ending}
use Rattle.opus_stream.specs.Packets.{holds_packet}
use Rattle.opus_stream.specs.Audio.{fault_at, first_fault, longest, cut_fault, packet_fault, open_fault, packets_fault}
use Rattle.opus_stream.specs.Granules.{is_last, bad_granule}
use Rattle.opus_stream.specs.Tests.{is_ended, is_first, is_other, follows, breaks_packets, continuation_fault, order_fault, read_fault, head_fault, has_tags, behind_tags, tags_go_on, audio_fault, form_fault, page_fault}
use Rattle.opus_stream.specs.Acceptance.{accepted_by, accepted_after, name_of, end_fault, fault_after, is_end_name}
use Rattle.opus_stream.specs.Readers.{ArePassed}

-- ---- one page

pub accepted_one : (before : List Page) (page : Page) (pages : List Page) → page_fault before page ≡ None
    → accepted_after before (page ∷ pages) ≡ page ∷ accepted_after (before ++ page ∷ []) pages
unfolding accepted_after
accepted_one before page pages h = ap (λ f. accepted_by f page (accepted_after (before ++ page ∷ []) pages)) h

pub accepted_stop : (before : List Page) (page : Page) (pages : List Page) (fault : Fault) → page_fault before page ≡ Some fault → accepted_after before (page ∷ pages) ≡ []
unfolding accepted_after
accepted_stop before page pages fault h = ap (λ f. accepted_by f page (accepted_after (before ++ page ∷ []) pages)) h

pub accepted_none : (before : List Page) → accepted_after before [] ≡ []
unfolding accepted_after
accepted_none before = refl

pub fault_one : (before : List Page) (page : Page) (pages : List Page) (ending : Ending) → page_fault before page ≡ None
    → fault_after before (page ∷ pages) ending ≡ fault_after (before ++ page ∷ []) pages ending
unfolding fault_after
fault_one before page pages ending h = ap (λ f. first_fault f (fault_after (before ++ page ∷ []) pages ending)) h

pub fault_stop : (before : List Page) (page : Page) (pages : List Page) (ending : Ending) (fault : Fault) → page_fault before page ≡ Some fault
    → fault_after before (page ∷ pages) ending ≡ Some fault
unfolding fault_after
fault_stop before page pages ending fault h = ap (λ f. first_fault f (fault_after (before ++ page ∷ []) pages ending)) h

pub fault_none : (before : List Page) (ending : Ending) → fault_after before [] ending ≡ end_fault (is_ended before) (length before) ending
unfolding fault_after
fault_none before ending = refl

-- ---- pages that were accepted stay so

pub passed_none : ArePassed []
passed_none = record { pages = λ more. refl; fault = λ more ending. refl }

pub passed_next : (front : List Page) (page : Page) → ArePassed front → page_fault front page ≡ None → ArePassed (front ++ page ∷ [])
passed_next front page passed h = record {
  pages = λ more. ap (accepted_after []) (append_assoc front (page ∷ []) more) ∙ passed.pages (page ∷ more) ∙ ap (λ l. front ++ l) (accepted_one front page more h)
      ∙ sym (append_assoc front (page ∷ []) (accepted_after (front ++ page ∷ []) more));
  fault = λ more ending. ap (λ l. fault_after [] l ending) (append_assoc front (page ∷ []) more) ∙ passed.fault (page ∷ more) ending ∙ fault_one front page more ending h;
}

-- ---- no fault of a page is one that more bytes could mend

abbrev pub Lasts : Option Fault → Type 0
Lasts None = Unit {0}
Lasts (Some fault) = is_end_name fault.name ≡ false

lasts-first : (a b : Option Fault) → Lasts a → Lasts b → Lasts (first_fault a b)
lasts-first None b h g = g
lasts-first (Some fault) b h g = h

lasts-if : (t : Bool) (a b : Option Fault) → Lasts a → Lasts b → Lasts (if t then a else b)
lasts-if true a b h g = h
lasts-if false a b h g = g

lasts-cut : (number : ℕ) (answer : Result Cut PacketFault) → Lasts (cut_fault number answer)
lasts-cut number (Err rule) = refl
lasts-cut number (Ok cut) =
    let config = config_of (slice_index cut.packet 0) in
    lasts-if (nat_lt config 16) (Some (fault_at (names.NotCelt config) number)) None refl tt

lasts-packet : (number : ℕ) (packet : List ℕ) → Lasts (packet_fault number packet)
unfolding packet_fault
lasts-packet number packet = lasts-if (nat_lt longest (length packet)) (Some (fault_at names.PacketTooLong number)) (cut_fault number (cut_of packet)) refl (lasts-cut number (cut_of packet))

lasts-open : (number : ℕ) (bytes : List ℕ) → Lasts (open_fault number bytes)
lasts-open number bytes = lasts-if (nat_lt longest (length bytes)) (Some (fault_at names.PacketTooLong number)) None refl tt

lasts-packets : (number : ℕ) (packets : List (List ℕ)) (left : List ℕ) → Lasts (packets_fault number packets left)
unfolding packets_fault
lasts-packets number [] left = lasts-open number left
lasts-packets number (packet ∷ packets) left =
    lasts-first (packet_fault number packet) (packets_fault (number + 1) packets left) (lasts-packet number packet) (lasts-packets (number + 1) packets left)

lasts-audio : (number : ℕ) (before : List Page) (page : Page) → Lasts (audio_fault number before page)
unfolding audio_fault
lasts-audio number before page = lasts-first _ _ (lasts-packets _ _ _) (lasts-if (bad_granule before (before ++ page ∷ []) page) (Some (fault_at names.BadGranule number)) None refl tt)

lasts-read : (page : Page) (answer : Result Head HeadFault) → Lasts (read_fault page answer)
lasts-read page (Err Bad) = refl
lasts-read page (Err Family) = refl
lasts-read page (Ok head) = lasts-if (is_last page) (Some (fault_at names.BadTags 0)) None refl tt

lasts-form : (before : List Page) (page : Page) → Lasts (form_fault before page)
unfolding form_fault head_fault
lasts-form [] page = lasts-if (is_first page && holds_packet page.lacing) (read_fault page (head_of page.body)) (Some (fault_at names.BadHead 0)) (lasts-read page (head_of page.body)) refl
lasts-form (head ∷ rest) page =
    lasts-if (has_tags rest) (audio_fault (length (head ∷ rest)) (behind_tags rest) page) (if tags_go_on rest page then None else Some (fault_at names.BadTags (length (head ∷ rest))))
    (lasts-audio (length (head ∷ rest)) (behind_tags rest) page)
    (lasts-if (tags_go_on rest page) None (Some (fault_at names.BadTags (length (head ∷ rest)))) tt refl)

lasts-continuation : (before : List Page) (page : Page) → Lasts (continuation_fault before page)
lasts-continuation before page = lasts-if (breaks_packets before page) (Some (fault_at names.BadContinuation (length before))) None refl tt

lasts-order : (before : List Page) (page : Page) → Lasts (order_fault before page)
unfolding order_fault
lasts-order [] page = lasts-continuation [] page
lasts-order (head ∷ rest) page =
    lasts-if (is_other head page) (Some (fault_at names.OtherStream (length (head ∷ rest))))
    (if not (follows head (length (head ∷ rest)) page) then Some (fault_at names.PageGap (length (head ∷ rest))) else continuation_fault (head ∷ rest) page) refl
    (lasts-if (not (follows head (length (head ∷ rest)) page)) (Some (fault_at names.PageGap (length (head ∷ rest)))) (continuation_fault (head ∷ rest) page) refl (lasts-continuation (head ∷ rest) page))

lasts-page : (before : List Page) (page : Page) → Lasts (page_fault before page)
unfolding page_fault
lasts-page before page =
    lasts-if (is_ended before) (Some (fault_at names.AfterEnd (length before))) (first_fault (order_fault before page) (form_fault before page)) refl
    (lasts-first (order_fault before page) (form_fault before page) (lasts-order before page) (lasts-form before page))

pub page_lasts : (before : List Page) (page : Page) (fault : Fault) → page_fault before page ≡ Some fault → is_end_name fault.name ≡ false
page_lasts before page fault h = subst Lasts h (lasts-page before page)

pub name_lasts : (fault : PageFault) → is_end_name (name_of fault) ≡ false
name_lasts page_faults.BadCapture = refl
name_lasts page_faults.BadPageVersion = refl
name_lasts page_faults.BadChecksum = refl
