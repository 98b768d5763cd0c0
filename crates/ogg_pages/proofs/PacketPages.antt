-- The page of one packet is one that can be.
use Rattle.std.proofs.Common.{ℕ, zero, suc, ℤ, ◌/◌, ◌%◌, ◌<◌, ◌≤◌, ◌^◌, List, [], ◌∷◌, length, replicate, sym, arith, w64}
use Rattle.std.specs.Prelude.{FitsSigned}
use Rattle.ogg_pages.specs.Spelling.{AreBytes, IsPage, packet_lacing, packet_page}
use Rattle.ogg_pages.proofs.Written.{length-packet_lacing}
use Rattle.ogg_pages.proofs.Laced.{packet_sum}
use Rattle.ogg_pages.proofs.ByteLists.{bytes-nil, bytes-append, bytes-cons}

bytes-full : (n : ℕ) → AreBytes (replicate n 255)
bytes-full zero = bytes-nil
bytes-full (suc n) = bytes-cons 255 (replicate n 255) (omega arith) (bytes-full n)

bytes-lacing : (len : ℕ) → AreBytes (packet_lacing len)
bytes-lacing len = bytes-append (replicate (len / 255) 255) (len % 255 ∷ []) (bytes-full (len / 255)) (bytes-cons (len % 255) [] (omega arith) bytes-nil)

pub packet_is_page : (flags : ℕ) (granule : ℤ) (sequence : ℕ) (packet : List ℕ) → flags < 256 → FitsSigned w64 granule → sequence < 2 ^ 32 → length packet ≤ 61440 → AreBytes packet
    → IsPage (packet_page flags granule sequence packet)
packet_is_page flags granule sequence packet f g s len bytes =
    record {
      flags = f;
      granule = g;
      serial = omega arith;
      sequence = s;
      segments = rw length-packet_lacing (omega arith);
      lacing = bytes-lacing (length packet);
      body = bytes;
      body_len = sym (packet_sum (length packet));
    }
