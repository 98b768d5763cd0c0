-- Lists by what stands at each place.
use Rattle.std.specs.Prelude.{ℕ, ℤ, pos, List, map, get_or}
use Rattle.std.specs.List.{range_with_len}

-- the item at a place
abbrev pub item : List ℤ → ℕ → ℤ
item xs p = get_or xs p (pos 0)

-- the list of n items with f p at each place p
abbrev pub listed : ℕ → (ℕ → ℤ) → List ℤ
listed n f = map f (range_with_len 0 n)
