-- Where the frames of a packet stand.
use Rattle.std.specs.Prelude.{ℕ, ◌+◌, ◌/◌, List, [], ◌∷◌, length, take, drop, replicate, sum, slice_index, slice_range}

-- The frames follow one another in the packet from the place `first` on. What stands before the first
-- frame are the octets that say how long they are, and what stands behind the last one is padding.
pub record Cut : Type 0 where
  pub packet : List ℕ
  pub first : ℕ
  pub lengths : List ℕ

-- the place at which frame i begins
abbrev pub start_of : Cut → ℕ → ℕ
start_of cut i = cut.first + sum (take i cut.lengths)

-- the place behind frame i
abbrev pub end_of : Cut → ℕ → ℕ
end_of cut i = start_of cut i + slice_index cut.lengths i

-- the bytes of frame i
abbrev pub frame_at : Cut → ℕ → List ℕ
frame_at cut i = slice_range cut.packet (start_of cut i) (end_of cut i)

-- the parts of these lengths that follow one another at the front of the bytes
abbrev pub parts : List ℕ → List ℕ → List (List ℕ)
parts [] bytes = []
parts (n ∷ ns) bytes = take n bytes ∷ parts ns (drop n bytes)

-- so many parts of one length
abbrev pub equal_parts : ℕ → List ℕ → List (List ℕ)
equal_parts count bytes = parts (replicate count (length bytes / count)) bytes

-- the frames
abbrev pub frames_of : Cut → List (List ℕ)
frames_of cut = parts cut.lengths (drop cut.first cut.packet)
