-- The pages of a stream that is encoded from samples: two pages of headers, and one page for each packet of frames (RFC 7845, sections 3 to
-- 5; RFC 6716, section 3).
use Rattle.std.specs.Prelude.{ℕ, zero, suc, ◌+◌, ◌-◌, ◌*◌, ◌/◌, false, List, [], ◌∷◌, ◌++◌, None}
use Rattle.celt_base.specs.declared.kind.Kind.{Kind}
use Rattle.opus_packets.specs.Form.{One, Many, spelled}
use Rattle.ogg_pages.specs.Fields.{Page}
use Rattle.celt_session.specs.Frames.{kind_of, duration}
use Rattle.celt_session.specs.FrameFunctions.{frames_from}
use Rattle.celt_session.specs.Encoding.{head_page, tags_page, audio_page, frames_of as frames_for}

-- What is put into packets: the first byte of packets of one frame, which names the kind of the frames; how many frames a packet has, at
-- most; and each frame by its number.
pub record Coded : Type 0 where
  pub toc : ℕ
  pub group : ℕ
  pub frame : ℕ → List ℕ

abbrev pub kind_in : Coded → Kind
kind_in c = kind_of c.toc

-- A packet of one frame is of code 0, and one of more frames of code 3, without padding and with frames of one length.
abbrev pub packet_of : ℕ → List (List ℕ) → List ℕ
packet_of toc [] = spelled toc (Many false None [])
packet_of toc (frame ∷ []) = spelled toc (One frame)
packet_of toc (frame ∷ second ∷ frames) = spelled toc (Many false None (frame ∷ second ∷ frames))

-- the page of packet p, of so many frames
abbrev pub page_of : Coded → ℕ → ℕ → ℕ → ℕ → Page
page_of c flags granule p count = audio_page (packet_of c.toc (frames_from c.frame (p * c.group) count)) flags granule p

-- The pages of so many packets from packet p on, which are full; none of them ends the stream. The granule position is the end of the
-- packet's last frame.
unfoldable pub packets_from : Coded → ℕ → ℕ → List Page
packets_from c p zero = []
packets_from c p (suc count) = packets_from c p count ++ page_of c 0 ((p + count + 1) * c.group * duration (kind_in c)) (p + count) c.group ∷ []

-- The frames of a stream of n samples per channel, as many as hold them and the 120 that a decoder drops; and its last packet, which ends
-- the stream: the granule position of its page is the end of the samples.
abbrev pub frame_count : Coded → ℕ → ℕ
frame_count c n = frames_for (duration (kind_in c)) n

abbrev pub last_packet : Coded → ℕ → ℕ
last_packet c n = (frame_count c n - 1) / c.group

abbrev pub last_page : Coded → ℕ → Page
last_page c n = page_of c 4 (120 + n) (last_packet c n) (frame_count c n - last_packet c n * c.group)

-- How many packets are full and end within the first q samples per channel.
abbrev pub settled_packets : Coded → ℕ → ℕ
settled_packets c q = q / (c.group * duration (kind_in c))

-- The audio pages of n samples per channel that end here, and those of the full packets that end within the first q of them, which no
-- later sample changes.
abbrev pub ended_pages : Coded → ℕ → List Page
ended_pages c n = packets_from c 0 (last_packet c n) ++ last_page c n ∷ []

abbrev pub settled_pages : Coded → ℕ → List Page
settled_pages c q = packets_from c 0 (settled_packets c q)

-- all pages
abbrev pub with_headers : Coded → List Page → List Page
with_headers c pages = head_page (kind_in c).channels ∷ tags_page ∷ pages
