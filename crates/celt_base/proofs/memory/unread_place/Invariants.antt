use Rattle.std.proofs.Common.{◌≡◌, ◌-◌, length, drop}
use Rattle.celt_base.specs.Memory.{unread, unread_pieces}
use Rattle.celt_base.proofs.memory.unread_place.Given as goal

-- what is unread stays the same
abbrev pub invariant-loop-piece : goal.invariant-loop-piece
invariant-loop-piece l =
    (unread (drop l.piece l.pieces) l.start ≡ unread (drop l.fn.piece l.pieces) l.fn.start)
    × (unread_pieces (drop l.piece l.pieces) l.start ≡ unread_pieces (drop l.fn.piece l.pieces) l.fn.start)

abbrev pub decreases-loop-piece : goal.decreases-loop-piece
decreases-loop-piece l = length l.pieces - l.piece
