-- What bytes hold at the place of a page, in the order of the tests (RFC 3533, section 6).
use Rattle.std.specs.Prelude.{ℕ, ◌==◌, Bool, not, List, [], ◌∷◌, length, take, drop, slice_index, nat_eq, nat_lt, if◌then◌else◌}
use Rattle.std.specs.List.{starts_with}
use Rattle.byteorder.specs.Endian.{little_number}
use Rattle.ogg_pages.specs.declared.page.Verdict.{Verdict}
use Rattle.ogg_pages.specs.declared.page.Verdict.TheVariants.{Whole, Need, Fault}
use Rattle.ogg_pages.specs.declared.page.PageFault.TheVariants.{BadCapture, BadPageVersion, BadChecksum}
use Rattle.ogg_pages.specs.Bounds.{page_len}
use Rattle.ogg_pages.specs.Checksum.{checksum}

-- "OggS"
abbrev pub capture : List ℕ
capture = 79 ∷ 103 ∷ 103 ∷ 83 ∷ []

-- the first four bytes, as far as they are there, are a page's
unfoldable pub captures : List ℕ → Bool
captures bytes = starts_with nat_eq capture (take 4 bytes)

-- the checksum that a page holds
unfoldable pub checksum_in : List ℕ → ℕ
checksum_in page = little_number 4 (drop 22 page)

abbrev pub summed : List ℕ → Bool
summed page = checksum page == checksum_in page

-- capture and version are tested on the bytes that are there, the checksum on a page that is there whole
unfoldable pub verdict : List ℕ → Verdict
verdict bytes =
    if not (captures bytes) then Fault BadCapture
    else (if not (slice_index bytes 4 == 0) then Fault BadPageVersion
    else (if nat_lt (length bytes) (page_len bytes) then Need
    else (if summed (take (page_len bytes) bytes) then Whole (page_len bytes) else Fault BadChecksum)))
