-- The accepted pages of a chain, and where its links begin (RFC 7845, section 3).
use Rattle.std.specs.Prelude.{ℕ, ◌/◌, ◌%◌, nat_eq, Bool, true, List, [], ◌∷◌, count_by}

-- what counts of a page: its flags, and how many audio packets end on it
pub record NotedPage : Type 0 where
  pub flags : ℕ
  pub packets : ℕ

-- Flag 4 is among the flags (RFC 3533, section 6): the page is the last one of its link.
abbrev pub is_last_flags : ℕ → Bool
is_last_flags flags = nat_eq (flags / 4 % 2) 1

abbrev pub is_last : NotedPage → Bool
is_last page = is_last_flags page.flags

-- A link begins behind these pages: there is none, or the last of them ends a link.
unfoldable pub starts_link : List NotedPage → Bool
starts_link [] = true
starts_link (page ∷ []) = is_last page
starts_link (page ∷ next ∷ pages) = starts_link (next ∷ pages)

-- the number of the link of the page behind these: how many links end with one of them
abbrev pub link_behind : List NotedPage → ℕ
link_behind pages = count_by is_last pages
