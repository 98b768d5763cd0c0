-- What a room keeps.
use Rattle.std.specs.Prelude.{ℕ, zero, suc, ℤ, List}
use Rattle.band_shapes.specs.declared.room.ShapeRoom.{ShapeRoom}

-- the vectors of channel 0 or 1
abbrev pub vector_of : ShapeRoom → ℕ → List ℤ
vector_of room zero = room.left.items
vector_of room (suc channel) = room.right.items
