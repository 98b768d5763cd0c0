-- A stream as it is written (RFC 3533, section 5; RFC 7845, sections 3 to 5): two headers and audio packets, whose segments are
-- cut into pages in some way.
use Rattle.std.specs.Prelude.{◌≡◌, ℕ, ◌+◌, ◌%◌, ◌^◌, Bool, true, false, List, [], ◌∷◌, ◌++◌, length, None, Ok}
use Rattle.std.specs.List.{All, flat_map, concat}
use Rattle.opus_packets.specs.declared.header.Head.{Head}
use Rattle.opus_packets.specs.Header.{head_of}
use Rattle.ogg_pages.specs.Fields.{Page}
use Rattle.ogg_pages.specs.Spelling.{IsPage, spelling, packet_lacing}
use Rattle.opus_stream.specs.Packets.{lacing_in, body_in, is_open, ends_packet}
use Rattle.opus_stream.specs.Audio.{packet_fault}
use Rattle.opus_stream.specs.Granules.{is_last, bad_granule}
use Rattle.opus_stream.specs.Tests.{is_continued, is_first, is_tags}

abbrev pub is_none_of : List Page → Bool
is_none_of [] = true
is_none_of (page ∷ pages) = false

-- the flags that are asked of a page between others: a first page, a last page, and one that begins inside a packet
pub record IsFlagged (before : List Page) (page : Page) (rest : List Page) : Type 0 where
  pub first : is_first page ≡ is_none_of before
  pub last : is_last page ≡ is_none_of rest
  pub continued : is_continued page ≡ is_open before

-- the numbers of a page of the stream that begins with head
pub record IsNumbered (head : Page) (before : List Page) (page : Page) : Type 0 where
  pub serial : page.serial ≡ head.serial
  pub sequence : page.sequence ≡ (head.sequence + length before) % 2 ^ 32

-- the lacing values of packets, one behind the other
abbrev pub lacing_of : List (List ℕ) → List ℕ
lacing_of packets = flat_map (λ packet. packet_lacing (length packet)) packets

-- The pages carry these headers and these audio packets: page 0 the first header, some pages the second one, which ends its
-- page, and the others the audio. Flags and numbers are those that are asked, and no granule position contradicts the samples.
pub record Carries (pages : List Page) (head tags : List ℕ) (packets : List (List ℕ)) : Type 0 where
  pub first : Page
  pub comments : List Page
  pub closing : Page
  pub audio : List Page
  pub pages_are : pages ≡ first ∷ (comments ++ closing ∷ audio)
  pub head_lacing : first.lacing ≡ packet_lacing (length head)
  pub head_body : first.body ≡ head
  pub tags_lacing : lacing_in comments ++ closing.lacing ≡ packet_lacing (length tags)
  pub tags_end : ends_packet closing ≡ true
  pub tags_body : body_in comments ++ closing.body ≡ tags
  pub audio_lacing : lacing_in audio ≡ lacing_of packets
  pub audio_body : body_in audio ≡ concat packets
  pub flags : (before : List Page) (page : Page) (rest : List Page) → pages ≡ before ++ page ∷ rest → IsFlagged before page rest
  pub numbers : (before : List Page) (page : Page) (rest : List Page) → pages ≡ before ++ page ∷ rest → IsNumbered first before page
  pub granules : (before : List Page) (page : Page) (rest : List Page) → audio ≡ before ++ page ∷ rest → bad_granule before (before ++ page ∷ []) page ≡ false

-- headers and audio packets that a stream may have
pub record AreSound (head tags : List ℕ) (packets : List (List ℕ)) : Type 0 where
  pub says : Head
  pub head_is : head_of head ≡ Ok says
  pub tags_are : is_tags tags ≡ true
  pub packets_are : All (λ packet. (number : ℕ) → packet_fault number packet ≡ None) packets

-- the bytes are those of these pages, which carry headers and these audio packets
pub record IsSpelled (bytes : List ℕ) (pages : List Page) (packets : List (List ℕ)) : Type 0 where
  pub bytes_are : bytes ≡ flat_map spelling pages
  pub pages_are : All IsPage pages
  pub head : List ℕ
  pub tags : List ℕ
  pub carries : Carries pages head tags packets
  pub sound : AreSound head tags packets
