-- How long a page is (RFC 3533, section 6): 27 bytes, of which the last is the number of segments, a lacing value for each
-- segment, and the segments. A byte that is not there counts as 0, so a page that is cut is shorter than its length.
use Rattle.std.specs.Prelude.{ℕ, ◌+◌, List, take, drop, sum, slice_index}

abbrev pub segments_of : List ℕ → ℕ
segments_of bytes = slice_index bytes 26

abbrev pub lacing_of : List ℕ → List ℕ
lacing_of bytes = take (segments_of bytes) (drop 27 bytes)

abbrev pub page_len : List ℕ → ℕ
page_len bytes = 27 + segments_of bytes + sum (lacing_of bytes)
