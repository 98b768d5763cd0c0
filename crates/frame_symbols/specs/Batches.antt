-- Batches of frames: each slot names a part of the bytes, and holds the symbols of that part's reading afterwards.
use Rattle.std.specs.Prelude.{◌≡◌, ℕ, ◌-◌, ◌<◌, ◌≤◌, List, length, take, drop, slice_index_or}
use Rattle.frame_symbols.specs.declared.batch.FrameSlot.{FrameSlot}
use Rattle.frame_symbols.specs.HeldSymbols.{AreRead}

-- The slot's part lies within the bytes, and is no longer than a frame may be.
pub record IsPart (bytes : List ℕ) (slot : FrameSlot) : Type 0 where
  pub rises : slot.from ≤ slot.to
  pub inside : slot.to ≤ length bytes
  pub most : slot.to - slot.from ≤ 1275

abbrev pub part_of : List ℕ → FrameSlot → List ℕ
part_of bytes slot = drop slot.from (take slot.to bytes)

-- A slot of 2 bytes or more holds the reading of its part; another stays as it was.
pub record ReadsSlot (bytes : List ℕ) (before after : FrameSlot) : Type 0 where
  pub from : after.from ≡ before.from
  pub to : after.to ≡ before.to
  pub kind : after.kind ≡ before.kind
  pub read : 2 ≤ before.to - before.from → AreRead before.kind (part_of bytes before) after.symbols
  pub kept : before.to - before.from < 2 → after.symbols ≡ before.symbols

abbrev pub PartsInside : List ℕ → List FrameSlot → Type 0
PartsInside bytes slots = (k : ℕ) (d : FrameSlot) → k < length slots → IsPart bytes (slice_index_or slots k d)

abbrev pub ReadsSlots : List ℕ → List FrameSlot → List FrameSlot → Type 0
ReadsSlots bytes before after =
    (k : ℕ) (d : FrameSlot) → k < length before → ReadsSlot bytes (slice_index_or before k d) (slice_index_or after k d)
