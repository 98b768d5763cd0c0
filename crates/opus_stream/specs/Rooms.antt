-- The bytes of the packets of a page.
use Rattle.std.specs.Prelude.{ℕ, ◌+◌, ◌*◌, List}

-- the bytes of the accepted page and where the open packet begins in them; those of a page that is tested, from there on
pub record Kept : Type 0 where
  pub given : List ℕ
  pub offered : List ℕ
  pub left : ℕ

-- how many bytes are reserved for the copy of a page, and for the longest packet that can be open with the segments of two pages
abbrev pub page_room : ℕ
page_room = 65307

abbrev pub packets_room : ℕ
packets_room = 61440 + 2 * 65025
