-- What a failing sink appends is a front of the bytes.
use Rattle.std.proofs.Common.{ℕ, ◌/◌, List, [], length, take, drop, refl, sym, ◌∙◌, append-nil}
use Rattle.std.proofs.lemmas.List.{take-append-drop}
use Rattle.celt_base.specs.Memory.{AppendsHalf, half, nothing}
use Rattle.celt_base.specs.Outside.{GrewByFront}

pub half_front : (room : ℕ) (old new bytes : List ℕ) → AppendsHalf room old new bytes → GrewByFront old new bytes
half_front room old new bytes (half grew) =
    record {
      front = take (length bytes / 2) bytes;
      rest = drop (length bytes / 2) bytes;
      is_front = sym (take-append-drop (length bytes / 2) bytes);
      grew = grew;
    }
half_front room old new bytes (nothing full same) = record { front = []; rest = bytes; is_front = refl; grew = same ∙ sym (append-nil old) }
