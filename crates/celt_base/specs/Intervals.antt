-- The interval of the range coder (RFC 6716, sections 4.1 and 5.1): the frame's number lies in it. Each symbol narrows
-- it to one part. It is never wrapped and no byte is sent: where the standard shifts bits out, the interval keeps them.
use Rattle.std.specs.Prelude.{ℕ, zero, suc, ◌+◌, ◌-◌, ◌*◌, ◌/◌, ◌^◌, nat_lt, if◌then◌else◌}

-- A part of a range: from `from` up to and without `to`, of `total`. The standard's fl, fh and ft.
pub record Part : Type 0 where
  pub from : ℕ
  pub to : ℕ
  pub total : ℕ

-- What is coded at once: a part, or so many raw bits of this number (RFC 6716, section 4.1.4).
pub data Symbol : Type 0 where
  InPart : Part → Symbol
  InBits : ℕ → ℕ → Symbol

-- The number's first 31 + shift bits are from low up to and without low + width. `raw` bits were coded at the other
-- end of the frame; `bits` is their number, the first one lowest.
pub record Interval : Type 0 where
  pub low : ℕ
  pub width : ℕ
  pub shift : ℕ
  pub raw : ℕ
  pub bits : ℕ

abbrev pub whole : Interval
whole = record { low = 0; width = 2 ^ 31; shift = 0; raw = 0; bits = 0 }

-- How far below the upper end a place of the range lies. Place 0 is the lower end: what the division leaves is below
-- the first place.
abbrev pub depth : ℕ → ℕ → ℕ → ℕ
depth width total zero = width
depth width total (suc before) = width / total * (total - suc before)

unfoldable pub narrowed : Part → Interval → Interval
narrowed part i =
    record i {
      low = i.low + (i.width - depth i.width part.total part.from);
      width = depth i.width part.total part.from - depth i.width part.total part.to;
    }

-- One step of renormalisation (RFC 6716, section 4.1.2.1): eight bits more, where the width is at most 2^23.
unfoldable pub grown : Interval → Interval
grown i =
    if nat_lt (2 ^ 23) i.width then i else record i { low = i.low * 256; width = i.width * 256; shift = i.shift + 8 }

-- Three steps bring any width above 2^23, and further ones change nothing.
unfoldable pub after : Interval → Symbol → Interval
after i (InPart part) = grown (grown (grown (narrowed part i)))
after i (InBits count number) = record i { raw = i.raw + count; bits = i.bits + number * 2 ^ i.raw }
