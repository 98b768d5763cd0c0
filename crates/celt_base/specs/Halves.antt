-- What stands at each place of a batch.
use Rattle.std.specs.Prelude.{ℕ, ◌<◌, List, length, slice_index_or}

-- Each slot can be filled.
abbrev pub CanFillAll : {A : Type 0} → (A → Type 0) → List A → Type 0
CanFillAll can xs = (k : ℕ) (d : _) → k < length xs → can (slice_index_or xs k d)

-- Each slot is one fill of the slot that stood in its place before.
abbrev pub FillsAll : {A : Type 0} → (A → A → Type 0) → List A → List A → Type 0
FillsAll fills xs ys = (k : ℕ) (d : _) → k < length xs → fills (slice_index_or xs k d) (slice_index_or ys k d)
