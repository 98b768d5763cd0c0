-- The joined spellings of pages are read as just these pages.
use Rattle.std.proofs.Common.{◌≡◌, List, [], ◌∷◌, ◌++◌, length, take, drop, refl, ◌∙◌, ap}
use Rattle.std.proofs.Math.Seq.{take-append_seam}
use Rattle.std.proofs.lemmas.List.{drop_at}
use Rattle.std.specs.List.{All, flat_map}
use Rattle.std.proofs.lemmas.List.Elements.{All-head, All-tail}
use Rattle.ogg_pages.specs.Fields.{Page, page_of}
use Rattle.ogg_pages.specs.Spelling.{IsPage, spelling}
use Rattle.ogg_pages.specs.Stream.{Sound, Stream, with_page, stream_in, stream}
use Rattle.ogg_pages.proofs.Spelled.{spelling_read, spelling_page}
use Rattle.ogg_pages.proofs.Streams.{stream-Whole}

abbrev just : List Page → Stream
just pages = record { pages = pages; ending = Sound }

joined_none : stream [] ≡ just []
unfolding stream stream_in
joined_none = refl

pub joined_stream : (pages : List Page) → All IsPage pages → stream (flat_map spelling pages) ≡ just pages
joined_stream [] all = joined_none
joined_stream (p ∷ pages) all =
    let is : IsPage p = All-head IsPage p pages all in
    let rest = flat_map spelling pages in
    let n = length (spelling p) in
    let page : page_of (take n (spelling p ++ rest)) ≡ p = ap page_of (take-append_seam (spelling p) rest) ∙ spelling_page p is in
    let behind : stream (drop n (spelling p ++ rest)) ≡ just pages =
    ap stream (drop_at (spelling p) rest n refl) ∙ joined_stream pages (All-tail IsPage p pages all) in
    stream-Whole (spelling p ++ rest) n (spelling_read p rest is) ∙ (λ i. with_page (page i) (behind i))

pub joined_pages : (pages : List Page) → All IsPage pages → (stream (flat_map spelling pages)).pages ≡ pages
joined_pages pages all = ap (λ s. s.pages) (joined_stream pages all)

pub joined_ending : (pages : List Page) → All IsPage pages → (stream (flat_map spelling pages)).ending ≡ Sound
joined_ending pages all = ap (λ s. s.ending) (joined_stream pages all)
