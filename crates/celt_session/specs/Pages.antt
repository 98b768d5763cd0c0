-- What of each accepted page is heard, in order.
use Rattle.std.specs.Prelude.{◌≡◌, ℕ, List, [], ◌∷◌, ◌++◌, Option}
use Rattle.opus_packets.specs.declared.header.Head.{Head}
use Rattle.ogg_pages.specs.Fields.{Page}
use Rattle.opus_stream.specs.declared.answers.Span.{Span}
use Rattle.opus_stream.specs.Acceptance.{head_in, last_packets, last_span, given_pages}
use Rattle.opus_stream.specs.Readers.{Reader, StandsFor}

-- a page: the identification header of its stream, the audio packets that end on it, and which of its samples are written
pub record Heard : Type 0 where
  pub head : Option Head
  pub packets : List (List ℕ)
  pub span : Span

-- the last of some pages
abbrev pub heard_at : List Page → Heard
heard_at pages = record { head = head_in pages; packets = last_packets pages; span = last_span pages }

-- pages behind those before
unfoldable pub heard_after : List Page → List Page → List Heard
heard_after before [] = []
heard_after before (page ∷ pages) = heard_at (before ++ page ∷ []) ∷ heard_after (before ++ page ∷ []) pages

-- the page that a reader gave last
pub record IsGiven (r : Reader) (heard : Heard) : Type 0 where
  pub bytes : List ℕ
  pub given : ℕ
  pub stands : StandsFor r bytes given
  pub heard_is : heard ≡ heard_at (given_pages bytes given)
