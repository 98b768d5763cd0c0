-- The bits of a frame, from its front and from its end (RFC 6716, section 4.1).
use Rattle.std.specs.Prelude.{ℕ, zero, suc, ◌+◌, ◌-◌, ◌*◌, ◌/◌, ◌%◌, ◌^◌, List, length, slice_index}

-- The number that the first bytes form, most significant first. A byte past the end is 0.
unfoldable pub front : List ℕ → ℕ → ℕ
front frame zero = 0
front frame (suc count) = front frame count * 256 + slice_index frame count

-- The number that the whole frame forms, most significant byte first.
unfoldable pub number : List ℕ → ℕ
number frame = front frame (length frame)

-- The number that the first bits form, most significant first. A bit past the end is 0.
unfoldable pub head : List ℕ → ℕ → ℕ
head frame bits = front frame (bits / 8 + 1) / 2 ^ (8 - bits % 8)

-- The number that `count` bits form, least significant first, which begin `from` bits from the end, counted from the
-- lowest bit of the last byte towards the front. A bit past the front is 0.
unfoldable pub tail : List ℕ → ℕ → ℕ → ℕ
tail frame from count = front frame (length frame) / 2 ^ from % 2 ^ count

-- The bit at a place from the front, the most significant bit of the first byte being at 0.
abbrev pub bit_at : List ℕ → ℕ → ℕ
bit_at frame place = slice_index frame (place / 8) / 2 ^ (7 - place % 8) % 2
