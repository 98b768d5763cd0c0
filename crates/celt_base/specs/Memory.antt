-- The calls of a source or a sink in memory that fail, the bytes of a source in pieces, and what a failing sink appends.
use Rattle.std.specs.Prelude.{◌≡◌, ℕ, ◌+◌, ◌/◌, ◌^◌, ◌<◌, min, List, [], ◌∷◌, ◌++◌, length, map, take, drop, Contains, Option, None, Some, Result, Ok, Err, Vec, nat_lt, if◌then◌else◌}
use Rattle.std.specs.List.{flat_map}
use Rattle.std.specs.declared.alloc.Global.{Global}

-- The call with this number is named. None is a number that is too great to be named.
abbrev pub IsNamed : List ℕ → Option ℕ → Type 0
IsNamed names None = ⊥
IsNamed names (Some call) = Contains names call

-- The number of the call after.
abbrev pub next_call : Option ℕ → Option ℕ
next_call None = None
next_call (Some call) = if nat_lt (call + 1) (2 ^ 64) then Some (call + 1) else None

abbrev pub joined : List (Vec ℕ Global) → List ℕ
joined pieces = flat_map (λ piece. piece.items) pieces

-- What is left of pieces whose first was read up to start.
abbrev pub unread : List (Vec ℕ Global) → ℕ → List ℕ
unread [] start = []
unread (piece ∷ pieces) start = drop start piece.items ++ joined pieces

-- The first piece has an unread byte at start, or there is no piece.
abbrev pub IsUnreadPlace : List (Vec ℕ Global) → ℕ → Type 0
IsUnreadPlace [] start = Unit {0}
IsUnreadPlace (piece ∷ pieces) start = start < length piece.items

-- The pieces that are not empty.
abbrev pub some_of : List (List ℕ) → List (List ℕ)
some_of [] = []
some_of ([] ∷ pieces) = some_of pieces
some_of ((x ∷ xs) ∷ pieces) = (x ∷ xs) ∷ some_of pieces

-- The pieces that are left, where the first was read up to start.
abbrev pub unread_pieces : List (Vec ℕ Global) → ℕ → List (List ℕ)
unread_pieces [] start = []
unread_pieces (piece ∷ pieces) start = some_of (drop start piece.items ∷ map (λ p. p.items) pieces)

-- A read of as many bytes of the first piece as there is place for, which leaves the others; there is none at the end.
abbrev pub GivesOne : List (List ℕ) → List (List ℕ) → ℕ → ℕ → Type 0
GivesOne [] now place count = (count ≡ 0) × (now ≡ [])
GivesOne (piece ∷ pieces) now place count = (count ≡ min (length piece) place) × (now ≡ some_of (drop count piece ∷ pieces))

-- A read that fails takes nothing.
abbrev pub GivesPiece : {E : Type 0} → List (List ℕ) → List (List ℕ) → ℕ → Result ℕ E → Type 0
GivesPiece before now place (Ok count) = GivesOne before now place count
GivesPiece before now place (Err failure) = now ≡ before

-- The first half of the bytes is appended, rounded down, or nothing where the room is too small for it.
pub data AppendsHalf (room : ℕ) (old new bytes : List ℕ) : Type 0 where
  half : new ≡ old ++ take (length bytes / 2) bytes → AppendsHalf room old new bytes
  nothing : room < length old + length bytes / 2 → new ≡ old → AppendsHalf room old new bytes
