-- Packets of frames of one length: they are played, and last as long as their frames.
use Rattle.std.proofs.Common.{◌≡◌, ℕ, ◌+◌, ◌*◌, ◌%◌, ◌≤◌, ◌<◌, false, List, [], ◌∷◌, ◌++◌, length, drop, map, replicate, refl, sym, ◌∙◌, ap, subst, arith, Some, None, Result, Ok, Err}
use Rattle.std.specs.Prelude.{slice_index, nat_lt, if◌then◌else◌, IsOkAnd}
use Rattle.std.specs.List.{All, concat}
use Rattle.std.proofs.lemmas.Bool.{le-ltb}
use Rattle.std.proofs.lemmas.Nat.{mul-le}
use Rattle.std.proofs.lemmas.List.{append-nil}
use Rattle.std.proofs.lemmas.List.Elements.{All-nil, All-cons, All-head, All-tail}
use Rattle.celt_base.specs.Kinds.{config_of_toc}
use Rattle.celt_base.specs.declared.status.FaultName.TheVariants.{NotCelt, PacketTooLong}
use Rattle.opus_packets.specs.declared.fault.PacketFault.{PacketFault}
use Rattle.opus_packets.specs.Cut.{Cut, frames_of}
use Rattle.opus_packets.specs.Packet.{config_of, duration_of, cut_of}
use Rattle.opus_packets.specs.Form.{One, Many, spelled, IsSound, count_octet}
use Rattle.opus_packets.proofs.FormsRead.{frames_written}
use Rattle.ogg_pages.specs.Spelling.{AreBytes}
use Rattle.ogg_pages.proofs.ByteLists.{bytes-nil, bytes-cons, bytes-append}
use Rattle.opus_stream.specs.Audio.{longest, fault_at, packet_fault, cut_fault, packet_samples, cut_samples}
use Rattle.opus_stream.proofs.Cutting.{cut_sound}
use Rattle.opus_stream.proofs.Joining.{length-parts}
use Rattle.celt_session.specs.Frames.{kind_of, duration}
use Rattle.celt_session.specs.AudioPages.{packet_of}
use Rattle.celt_session.proofs.PacketLemmas.{duration_is}

-- ---- a packet of a form

-- a packet that is played, and lasts as long as so many frames
pub record IsPlayed (toc : ℕ) (count : ℕ) (packet : List ℕ) : Type 0 where
  pub sound : (number : ℕ) → packet_fault number packet ≡ None
  pub samples : packet_samples packet ≡ count * duration (kind_of toc)
  pub bytes : AreBytes packet
  pub short : length packet ≤ 61440

not_hybrid : (config number : ℕ) → 16 ≤ config → (if nat_lt config 16 then Some (fault_at (NotCelt config) number) else None) ≡ None
not_hybrid config number h = ap (λ b. if b then Some (fault_at (NotCelt config) number) else None) (le-ltb config 16 h)

module _ (toc : ℕ) (packet : List ℕ) (frames : List (List ℕ)) (celt : 16 ≤ config_of_toc toc) (first : config_of (slice_index packet 0) ≡ config_of toc) (short : length packet ≤ 61440) where
  by_cut : (r : Result Cut PacketFault) → cut_of packet ≡ r → IsOkAnd r (λ cut. frames_of cut ≡ frames) → ((number : ℕ) → cut_fault number r ≡ None) × (cut_samples r ≡ length frames * duration (kind_of toc))
  by_cut (Err rule) e h = absurd h
  by_cut (Ok cut) e h =
      let same : config_of (slice_index cut.packet 0) ≡ config_of toc = ap (λ l. config_of (slice_index l 0)) (cut_sound packet cut e).packet_is ∙ first in
      let above : 16 ≤ config_of (slice_index cut.packet 0) = subst (λ n. 16 ≤ n) (sym same) celt in
      let count : length cut.lengths ≡ length frames = sym (length-parts cut.lengths (drop cut.first cut.packet)) ∙ ap length h in (
        λ number. not_hybrid (config_of (slice_index cut.packet 0)) number above,
        ap (λ n. n * duration_of (config_of (slice_index cut.packet 0))) count ∙ ap (λ n. length frames * duration_of n) same ∙ ap (λ n. length frames * n) (duration_is toc celt),
      )

  played_of : IsOkAnd (cut_of packet) (λ cut. frames_of cut ≡ frames) → AreBytes packet → IsPlayed toc (length frames) packet
  unfolding packet_fault packet_samples
  played_of h bytes =
      let both = by_cut (cut_of packet) refl h in
      record {
        sound = λ number. ap (λ b. if b then Some (fault_at PacketTooLong number) else cut_fault number (cut_of packet)) (le-ltb longest (length packet) short) ∙ both.0 number;
        samples = both.1;
        bytes = bytes;
        short = short;
      }

-- ---- packets of frames of one length

bytes-concat : (frames : List (List ℕ)) → All AreBytes frames → AreBytes (concat frames)
bytes-concat [] all = bytes-nil
bytes-concat (frame ∷ frames) all =
    bytes-append frame (concat frames) (All-head AreBytes frame frames all)
    (bytes-concat frames (All-tail AreBytes frame frames all))

-- Frames of one length, of which at least one and at most 48 fit into 120 ms.
pub record AreFrames (toc bytes : ℕ) (frames : List (List ℕ)) : Type 0 where
  pub some : 1 ≤ length frames
  pub few : length frames ≤ 48
  pub limited : bytes ≤ 1275
  pub short : length frames * duration (kind_of toc) ≤ 5760
  pub lengths : map length frames ≡ replicate (length frames) bytes
  pub total : length (concat frames) ≡ length frames * bytes
  pub are_bytes : All AreBytes frames

all_limited : (bytes : ℕ) (frames : List (List ℕ)) → bytes ≤ 1275 → map length frames ≡ replicate (length frames) bytes → All (λ frame. length frame ≤ 1275) frames
all_limited bytes [] h e = All-nil (λ (frame : List ℕ). length frame ≤ 1275)
all_limited bytes (frame ∷ frames) h e =
    let one : length frame ≡ bytes = cc in
    let more : map length frames ≡ replicate (length frames) bytes = cc in
    All-cons (λ (frame : List ℕ). length frame ≤ 1275) frame frames (omega arith) (all_limited bytes frames h more)

module _ (toc bytes : ℕ) (celt : 16 ≤ config_of_toc toc) (code : toc % 4 ≡ 0) (small : toc < 253) where
  many_played : (frames : List (List ℕ)) → AreFrames toc bytes frames → IsPlayed toc (length frames) (spelled toc (Many false None frames))
  many_played frames h =
      let form = Many false None frames in
      let some = h.some in
      let few = h.few in
      let inside : length frames * duration_of (config_of toc) ≤ 5760 = subst (λ n. length frames * n ≤ 5760) (sym (duration_is toc celt)) h.short in
      let sound : IsSound toc form = record {
        code = code;
        limited = all_limited bytes frames h.limited h.lengths;
        of_code = record { some = h.some; short = inside; equal = (bytes, h.lengths); padded = tt };
      } in
      let same : config_of (toc + 3) ≡ config_of toc = omega arith in
      let rest : concat frames ++ [] ≡ concat frames = append-nil (concat frames) in
      let long : length (concat frames ++ []) ≡ length frames * bytes = ap length rest ∙ h.total in
      let most = mul-le (length frames) bytes 48 1275 h.few h.limited in
      let octet : count_octet false None (length frames) < 256 = omega arith in
      let all : AreBytes (concat frames ++ []) = subst AreBytes (sym rest) (bytes-concat frames h.are_bytes) in
      played_of toc (spelled toc form) frames celt same (omega arith) (frames_written toc form sound)
      (bytes-cons (toc + 3) (count_octet false None (length frames) ∷ (concat frames ++ [])) (omega arith)
      (bytes-cons (count_octet false None (length frames)) (concat frames ++ []) octet all))

  one_played : (frame : List ℕ) → AreFrames toc bytes (frame ∷ []) → IsPlayed toc 1 (spelled toc (One frame))
  one_played frame h =
      let limited = all_limited bytes (frame ∷ []) h.limited h.lengths in
      let most : length frame ≤ 1275 = All-head (λ (frame : List ℕ). length frame ≤ 1275) frame [] limited in
      let sound : IsSound toc (One frame) = record { code = code; limited = limited; of_code = tt } in
      played_of toc (toc ∷ frame) (frame ∷ []) celt refl (omega arith) (frames_written toc (One frame) sound)
      (bytes-cons toc frame (omega arith) (All-head AreBytes frame [] h.are_bytes))

  pub packet_played : (frames : List (List ℕ)) → AreFrames toc bytes frames → IsPlayed toc (length frames) (packet_of toc frames)
  packet_played [] h = many_played [] h
  packet_played (frame ∷ []) h = one_played frame h
  packet_played (frame ∷ second ∷ frames) h = many_played (frame ∷ second ∷ frames) h
