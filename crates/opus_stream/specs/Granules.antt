-- The granule positions (RFC 7845, section 4) and what is written of the samples: trimming at the end (section 4.4) and pre-skip
-- (section 4.2). All is said of audio pages, the first of which begins with the first audio packet.
use Rattle.std.specs.Prelude.{ℕ, ℤ, pos, ◌-◌, ◌-ℤ◌, ◌==◌, ◌/◌, ◌%◌, Bool, ◌&&◌, List, [], ◌∷◌, min, unsigned_abs, nat_lt, if◌then◌else◌, Option, None, Some}
use Rattle.std.specs.Int.Signed.{lt_z}
use Rattle.ogg_pages.specs.Fields.{Page}
use Rattle.opus_stream.specs.declared.answers.Span.{Span}
use Rattle.opus_stream.specs.Packets.{ends_packet, packets_in}
use Rattle.opus_stream.specs.Audio.{samples_in}

-- the flag of a last page
abbrev pub is_last : Page → Bool
is_last page = page.flags / 4 % 2 == 1

-- the samples of the packets that end on these pages
abbrev pub samples_on : List Page → ℕ
samples_on pages = samples_in (packets_in pages)

-- the pages up to the first on which a packet ends
unfoldable pub up_to_first : List Page → List Page
up_to_first [] = []
up_to_first (page ∷ pages) = page ∷ (if ends_packet page then [] else up_to_first pages)

-- the granule position of that page
unfoldable pub first_granule : List Page → ℤ
first_granule [] = pos 0
first_granule (page ∷ pages) = if ends_packet page then page.granule else first_granule pages

-- where the stream begins: that granule position less the samples of the packets that end there
unfoldable pub start_in : List Page → ℤ
start_in pages = first_granule pages -ℤ pos (samples_on (up_to_first pages))

-- a last page may end before its packets do, so a start below 0 is one of 0 there
abbrev pub base_in : List Page → ℤ
base_in pages = if lt_z (start_in pages) (pos 0) then pos 0 else start_in pages

-- the granule position of the last page, where a packet ends on it
unfoldable pub end_granule : List Page → Option ℤ
end_granule [] = None
end_granule (page ∷ pages) = if is_last page && ends_packet page then Some page.granule else end_granule pages

-- Whether the granule position of the page behind others contradicts the samples: a last page keeps fewer than the pages before
-- it gave, or the stream would begin before 0.
unfoldable pub bad_granule : List Page → List Page → Page → Bool
bad_granule before now page =
    ends_packet page && (if is_last page then lt_z (page.granule -ℤ base_in now) (pos (samples_on before)) else lt_z (start_in now) (pos 0))

abbrev pub at_most : Option ℤ → ℤ → ℕ → ℕ
at_most None base samples = samples
at_most (Some granule) base samples = min samples (unsigned_abs (granule -ℤ base))

-- the samples that the pages give: all, but for what a last page cuts off
unfoldable pub given_on : List Page → ℕ
given_on pages = at_most (end_granule pages) (base_in pages) (samples_on pages)

-- of the samples of a page from the first number up to the second, or none
abbrev pub span : ℕ → ℕ → Span
span from to = if nat_lt from to then record { from = from; to = to } else record { from = 0; to = 0 }

-- The samples of a page that are written: `before` are the pages before it, `now` those up to it. Of all samples that are given the
-- first `preskip` are not written.
unfoldable pub span_on : ℕ → List Page → List Page → Span
span_on preskip before now = span (preskip - samples_on before) (given_on now - samples_on before)
