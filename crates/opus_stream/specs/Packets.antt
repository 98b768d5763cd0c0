-- Packets over the pages that carry them (RFC 3533, sections 5 and 6). The lacing values of the pages follow one another, and so do
-- their segments: a packet is the joined segments up to and with the first whose lacing value is below 255.
use Rattle.std.specs.Prelude.{ℕ, ◌+◌, ◌-◌, ◌==◌, Bool, true, false, ◌&&◌, List, [], ◌∷◌, length, take, drop, sum, slice_index, nat_lt, if◌then◌else◌}
use Rattle.std.specs.List.{flat_map, list_all, list_any}
use Rattle.opus_packets.specs.Cut.{parts}
use Rattle.ogg_pages.specs.Fields.{Page}

-- whether a segment of this lacing value ends its packet
abbrev pub ends : ℕ → Bool
ends value = nat_lt value 255

abbrev pub with_length : Bool → ℕ → List ℕ → List ℕ
with_length true len lengths = len ∷ lengths
with_length false len lengths = lengths

-- the lengths of the packets that end among the lacing values, where so many bytes of the first one stand before them
unfoldable pub lengths_from : ℕ → List ℕ → List ℕ
lengths_from before [] = []
lengths_from before (value ∷ values) =
    with_length (ends value) (before + value) (lengths_from (if ends value then 0 else before + value) values)

-- the lacing values of pages, and their segments, one behind the other
abbrev pub lacing_in : List Page → List ℕ
lacing_in pages = flat_map (λ (page : Page). page.lacing) pages

abbrev pub body_in : List Page → List ℕ
body_in pages = flat_map (λ (page : Page). page.body) pages

abbrev pub lengths_in : List Page → List ℕ
lengths_in pages = lengths_from 0 (lacing_in pages)

-- the packets that end on these pages, of which the first begins there
unfoldable pub packets_in : List Page → List (List ℕ)
packets_in pages = parts (lengths_in pages) (body_in pages)

-- what stands behind the last of them: the bytes so far of the packet that is open
unfoldable pub open_in : List Page → List ℕ
open_in pages = drop (sum (lengths_in pages)) (body_in pages)

-- a packet is open behind a last lacing value 255
unfoldable pub is_open : List Page → Bool
is_open pages = slice_index (lacing_in pages) (length (lacing_in pages) - 1) == 255

-- whether a packet ends on the page
abbrev pub ends_packet : Page → Bool
ends_packet page = list_any ends page.lacing

-- whether the lacing values are those of just one whole packet: all but the last are 255, and the last is below
unfoldable pub holds_packet : List ℕ → Bool
holds_packet lacing =
    nat_lt 0 (length lacing) && list_all (λ value. value == 255) (take (length lacing - 1) lacing)
    && ends (slice_index lacing (length lacing - 1))
