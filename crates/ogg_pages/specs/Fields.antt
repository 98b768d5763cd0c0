-- A page as its fields (RFC 3533, section 6). Numbers are little-endian; the granule position is signed.
use Rattle.std.specs.Prelude.{ℕ, ℤ, ◌+◌, List, take, drop, sum, slice_index}
use Rattle.std.specs.Int.{w64, cast_signed}
use Rattle.byteorder.specs.Endian.{little_number}
use Rattle.ogg_pages.specs.Bounds.{segments_of, lacing_of}

pub record Page : Type 0 where
  pub flags : ℕ
  pub granule : ℤ
  pub serial : ℕ
  pub sequence : ℕ
  pub lacing : List ℕ
  pub body : List ℕ

-- the segments behind the lacing values
abbrev pub body_of : List ℕ → List ℕ
body_of bytes = take (sum (lacing_of bytes)) (drop (27 + segments_of bytes) bytes)

-- the fields of the page that begins so
abbrev pub page_of : List ℕ → Page
page_of bytes = record {
  flags = slice_index bytes 5;
  granule = cast_signed w64 (little_number 8 (drop 6 bytes));
  serial = little_number 4 (drop 14 bytes);
  sequence = little_number 4 (drop 18 bytes);
  lacing = lacing_of bytes;
  body = body_of bytes;
}
