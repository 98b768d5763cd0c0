-- A page as it is written (RFC 3533, section 6).
use Rattle.std.specs.Prelude.{◌≡◌, ℕ, ℤ, ◌/◌, ◌%◌, ◌^◌, ◌<◌, ◌≤◌, List, [], ◌∷◌, ◌++◌, length, sum, replicate, slice_index, FitsSigned}
use Rattle.std.specs.Int.{w64, cast_unsigned}
use Rattle.byteorder.specs.Endian.{little_bytes}
use Rattle.ogg_pages.specs.Fields.{Page}
use Rattle.ogg_pages.specs.Checksum.{checksum}

-- numbers below 256
abbrev pub AreBytes : List ℕ → Type 0
AreBytes bytes = (k : ℕ) → slice_index bytes k < 256

-- fields that a page can have
pub record IsPage (p : Page) : Type 0 where
  pub flags : p.flags < 256
  pub granule : FitsSigned w64 p.granule
  pub serial : p.serial < 2 ^ 32
  pub sequence : p.sequence < 2 ^ 32
  pub segments : length p.lacing ≤ 255
  pub lacing : AreBytes p.lacing
  pub body : AreBytes p.body
  pub body_len : length p.body ≡ sum p.lacing

-- the 27 bytes before the lacing values, with this checksum
abbrev pub header : Page → ℕ → List ℕ
header p sum =
    79 ∷ 103 ∷ 103 ∷ 83 ∷ 0 ∷ p.flags ∷ little_bytes 8 (cast_unsigned w64 p.granule) ++ little_bytes 4 p.serial ++ little_bytes 4 p.sequence
    ++ little_bytes 4 sum ++ length p.lacing ∷ []

abbrev pub with_checksum : Page → ℕ → List ℕ
with_checksum p sum = header p sum ++ p.lacing ++ p.body

-- the bytes of a page: the header with the checksum, the lacing values, the segments
unfoldable pub spelling : Page → List ℕ
spelling p = with_checksum p (checksum (with_checksum p 0))

-- the lacing values of one packet: 255 as often as it goes, and the rest
abbrev pub packet_lacing : ℕ → List ℕ
packet_lacing len = replicate (len / 255) 255 ++ (len % 255) ∷ []

-- a page of one whole packet, of the logical stream 1
abbrev pub packet_page : ℕ → ℤ → ℕ → List ℕ → Page
packet_page flags granule sequence packet = record {
  flags = flags;
  granule = granule;
  serial = 1;
  sequence = sequence;
  lacing = packet_lacing (length packet);
  body = packet;
}
