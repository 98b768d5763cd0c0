-- What a room keeps once its lent vectors were written.
use Rattle.std.specs.Prelude.{ℕ, zero, suc, ℤ, List}
use Rattle.std.specs.Borrow.{Lends, MutBor, Fml, Array, i64}
use Rattle.std.specs.Vec.{with_items}
use Rattle.band_shapes.specs.declared.room.ShapeRoom.{ShapeRoom}
use Rattle.band_shapes.specs.contracts.room.ShapeRoom.{the_row}

-- a room with this vector in the left channel, in the right one, or in channel 0 or 1
abbrev pub with_left : ShapeRoom → List ℤ → ShapeRoom
with_left s w = record s { left = with_items s.left w }

abbrev pub with_right : ShapeRoom → List ℤ → ShapeRoom
with_right s w = record s { right = with_items s.right w }

abbrev pub with_vector : ShapeRoom → ℕ → List ℤ → ShapeRoom
with_vector s zero w = with_left s w
with_vector s (suc channel) w = with_right s w

abbrev pub LendsShape : MutBor ShapeRoom → ℕ → MutBor (List ℤ) → Fml
LendsShape s channel r = Lends the_row (Array i64 0) s r (with_vector s.now channel)
