-- The frames of packets, one after the other.
use Rattle.std.proofs.Common.{◌≡◌, ℕ, ◌+◌, ◌/◌, ◌%◌, ◌<◌, ◌≤◌, Bool, true, false, List, [], ◌∷◌, ◌++◌, length, take, drop, map, refl, sym, ◌∙◌, ap, arith, append-nil, Option, Some, Ok, Err}
use Rattle.std.specs.Prelude.{◌==◌, if◌then◌else◌, slice_get, slice_index, option_map}
use Rattle.std.specs.List.{flat_map}
use mir.Val.{bool_byte}
use Rattle.std.proofs.Math.Numerals.{add-one}
use Rattle.std.proofs.Math.Seq.{take-suc}
use Rattle.std.proofs.lemmas.Bool.Decides.{nat_tests}
use Rattle.std.proofs.lemmas.List.{take_all, take-append-drop, length-map}
use Rattle.std.proofs.lemmas.List.Concat.{flat_map-append}
use Rattle.std.proofs.lemmas.Option.{slice_get_within, get_or_from_slice_get, slice_get-map}
use Rattle.opus_packets.specs.declared.fault.PacketFault.{PacketFault}
use Rattle.opus_packets.specs.declared.header.Head.{Head}
use Rattle.opus_packets.specs.Cut.{Cut, frames_of}
use Rattle.opus_packets.specs.Packet.{config_of, is_stereo, cut_of}
use Rattle.opus_stream.proofs.Joining.{length-parts}
use Rattle.opus_stream.specs.Acceptance.{given_pages, last_packets, last_span, head_in}
use Rattle.opus_stream.specs.Readers.{Reader, StandsFor, IsPacket}
use Rattle.opus_stream.specs.declared.answers.Span.{Span}
use Rattle.celt_base.specs.declared.kind.Kind.{Kind}
use Rattle.celt_base.specs.Ends.{end_of_config}
use Rattle.celt_session.proofs.KindFacts.{kinds_same}
use Rattle.celt_session.specs.Pages.{Heard, IsGiven}
use Rattle.celt_session.specs.Frames.{Frame, framed, frames_by, kind_of, packet_frames, page_frames}

-- ---- the page that was given last

pub given_packet : (r : Reader) (heard : Heard) (i : ℕ) (packet : List ℕ) → IsGiven r heard → IsPacket r i packet → slice_get heard.packets i ≡ Some packet
given_packet r heard i packet g is = ap (λ (h : Heard). slice_get h.packets i) g.heard_is ∙ is g.bytes g.given g.stands

pub given_count : (r : Reader) (heard : Heard) (count : ℕ) → IsGiven r heard → ((bytes : List ℕ) (given : ℕ) → StandsFor r bytes given → count ≡ length (last_packets (given_pages bytes given)))
    → count ≡ length heard.packets
given_count r heard count g is = is g.bytes g.given g.stands ∙ sym (ap (λ (h : Heard). length h.packets) g.heard_is)

pub given_span : (r : Reader) (heard : Heard) (span : Span) → IsGiven r heard → ((bytes : List ℕ) (given : ℕ) → StandsFor r bytes given → span ≡ last_span (given_pages bytes given)) → span ≡ heard.span
given_span r heard span g is = is g.bytes g.given g.stands ∙ sym (ap (λ (h : Heard). h.span) g.heard_is)

pub given_head : (r : Reader) (heard : Heard) (head : Option Head) → IsGiven r heard
    → ((bytes : List ℕ) (given : ℕ) → StandsFor r bytes given → head ≡ head_in (given_pages bytes given)) → head ≡ heard.head
given_head r heard head g is = is g.bytes g.given g.stands ∙ sym (ap (λ (h : Heard). h.head) g.heard_is)

-- ---- one after the other

-- one element more
pub next-is : {X : Type 0} (xs : List X) (i : ℕ) (x : X) → slice_get xs i ≡ Some x → take (i + 1) xs ≡ take i xs ++ x ∷ []
next-is xs i x h = ap (λ n. take n xs) (add-one i) ∙ take-suc xs i x (slice_get_within xs i x h) ∙ ap (λ y. take i xs ++ y ∷ []) (get_or_from_slice_get xs i x x h)

-- ---- a packet

pub frames-is : (packet : List ℕ) (cut : Cut) → Ok cut ≡ cut_of packet → packet_frames packet ≡ map (framed (kind_of (slice_index cut.packet 0))) (frames_of cut)
unfolding packet_frames
frames-is packet cut e = ap frames_by (sym e)

pub frames-none : (packet : List ℕ) (rule : PacketFault) → Err rule ≡ cut_of packet → packet_frames packet ≡ []
unfolding packet_frames
frames-none packet rule e = ap frames_by (sym e)

pub frame_at : (packet : List ℕ) (cut : Cut) (i : ℕ) (bytes : List ℕ) → Ok cut ≡ cut_of packet → slice_get (frames_of cut) i ≡ Some bytes
    → slice_get (packet_frames packet) i ≡ Some (framed (kind_of (slice_index cut.packet 0)) bytes)
frame_at packet cut i bytes e h =
    ap (λ l. slice_get l i) (frames-is packet cut e) ∙ slice_get-map (framed (kind_of (slice_index cut.packet 0))) (frames_of cut) i
    ∙ ap (option_map (framed (kind_of (slice_index cut.packet 0)))) h

pub frames-count : (packet : List ℕ) (cut : Cut) → Ok cut ≡ cut_of packet → length (packet_frames packet) ≡ length cut.lengths
frames-count packet cut e =
    ap length (frames-is packet cut e) ∙ length-map (frames_of cut) (framed (kind_of (slice_index cut.packet 0))) ∙ length-parts cut.lengths (drop cut.first cut.packet)

pub page-next : (packets : List (List ℕ)) (i : ℕ) (packet : List ℕ) → slice_get packets i ≡ Some packet → page_frames (take (i + 1) packets) ≡ page_frames (take i packets) ++ packet_frames packet
unfolding page_frames
page-next packets i packet h =
    ap (flat_map packet_frames) (next-is packets i packet h) ∙ flat_map-append packet_frames (take i packets) (packet ∷ [])
    ∙ ap (λ l. flat_map packet_frames (take i packets) ++ l) (append-nil (packet_frames packet))

pub page-none : page_frames [] ≡ []
unfolding page_frames
page-none = refl

pub page-all : (packets : List (List ℕ)) (i : ℕ) → length packets ≤ i → page_frames (take i packets) ≡ page_frames packets
page-all packets i h = ap page_frames (take_all i packets h)

-- the frames behind so many packets
abbrev pub frames_behind : ℕ → List (List ℕ) → List Frame
frames_behind i packets = page_frames (drop i packets)

pub page-split : (i : ℕ) (packets : List (List ℕ)) → page_frames packets ≡ page_frames (take i packets) ++ frames_behind i packets
unfolding page_frames
page-split i packets = ap (flat_map packet_frames) (sym (take-append-drop i packets)) ∙ flat_map-append packet_frames (take i packets) (drop i packets)

pub byte_is : (b : Bool) → bool_byte b ≡ (if b then 1 else 0)
byte_is true = refl
byte_is false = refl

-- the kind of its frames, by what is read of the first byte
pub kind_is : (kind : Kind) (toc config : ℕ) (stereo : Bool) → config ≡ config_of toc → stereo ≡ is_stereo toc → kind.lm ≡ config % 4 → kind.channels ≡ 1 + (if stereo then 1 else 0) → kind.end ≡ end_of_config config → kind ≡ kind_of toc
unfolding kind_of
kind_is kind toc config stereo e f lm channels end =
    kinds_same kind (kind_of toc) (lm ∙ ap (λ n. n % 4) e) (channels ∙ ap (λ b. 1 + (if b then 1 else 0)) f ∙ by (toc / 4 % 2) small) (end ∙ ap end_of_config e) where
      small : toc / 4 % 2 < 2
      small = omega arith

      by : (n : ℕ) → n < 2 → 1 + (if n == 1 then 1 else 0) ≡ 1 + n
      by n h = grind (arith, nat_tests)
