-- The pages of a whole list of bytes (RFC 3533, section 6), and what follows the last one.
use Rattle.std.specs.Prelude.{ℕ, zero, suc, List, [], ◌∷◌, length, take, drop}
use Rattle.ogg_pages.specs.declared.page.Verdict.{Verdict}
use Rattle.ogg_pages.specs.declared.page.Verdict.TheVariants.{Whole, Need, Fault}
use Rattle.ogg_pages.specs.declared.page.PageFault.{PageFault}
use Rattle.ogg_pages.specs.Verdicts.{verdict}
use Rattle.ogg_pages.specs.Fields.{Page, page_of}

-- what follows the last page: nothing, less than a page, or bytes that break a test
pub data Ending : Type 0 where
  Sound : Ending
  Cut : Ending
  Broken : PageFault → Ending

pub record Stream : Type 0 where
  pub pages : List Page
  pub ending : Ending

abbrev pub ending_by : Verdict → Ending
ending_by (Whole n) = Sound
ending_by Need = Cut
ending_by (Fault fault) = Broken fault

abbrev pub ending_of : List ℕ → Ending
ending_of [] = Sound
ending_of (byte ∷ bytes) = ending_by (verdict (byte ∷ bytes))

abbrev pub no_page : List ℕ → Stream
no_page bytes = record { pages = []; ending = ending_of bytes }

abbrev pub with_page : Page → Stream → Stream
with_page page s = record { pages = page ∷ s.pages; ending = s.ending }

-- a page, and what more tells of the bytes behind it
abbrev pub after_verdict : (List ℕ → Stream) → List ℕ → Verdict → Stream
after_verdict more bytes (Whole n) = with_page (page_of (take n bytes)) (more (drop n bytes))
after_verdict more bytes Need = no_page bytes
after_verdict more bytes (Fault fault) = no_page bytes

-- at most so many pages
unfoldable pub stream_in : ℕ → List ℕ → Stream
stream_in zero bytes = no_page bytes
stream_in (suc turns) bytes = after_verdict (stream_in turns) bytes (verdict bytes)

-- a page has a byte at least, so there are no more pages than bytes
unfoldable pub stream : List ℕ → Stream
stream bytes = stream_in (length bytes) bytes
