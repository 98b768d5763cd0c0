-- The windows of samples that frames are made of.
use Rattle.std.specs.Prelude.{ℕ, ℤ, pos, ◌+◌, ◌*◌, List, ◌++◌, replicate, take, drop}

-- so many items of a list from a place on; behind its end stands the filling
abbrev pub items_from : {A : Type 0} → A → ℕ → ℕ → List A → List A
items_from filling place count items = take count (drop place items ++ replicate count filling)

-- The samples per channel of a window that are before those of the frame alone.
abbrev pub lead : ℕ
lead = 1145

-- The window of frame t, of so many samples per channel a frame: as many and the lead before them, up to the frame's last sample,
-- channels interleaved. Samples outside the input are 0.
unfoldable pub window_of : ℕ → ℕ → List ℤ → ℕ → List ℤ
window_of channels samples input t =
    items_from (pos 0) (channels * (t * samples)) (channels * (lead + samples)) (replicate (channels * lead) (pos 0) ++ input)
