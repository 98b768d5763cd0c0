-- The frames of a page in batches: those that are held, those that are left, and what is read of them.
use Rattle.std.specs.Prelude.{◌≡◌, ℕ, ◌+◌, ◌*◌, ◌≤◌, ◌<◌, List, ◌++◌, length, map, take, drop, slice_get, slice_index_or, Some, vec_capacity}
use Rattle.celt_base.specs.declared.kind.Kind.{Kind}
use Rattle.frame_symbols.specs.declared.batch.FrameSlot.{FrameSlot}
use Rattle.frame_symbols.specs.declared.symbols.Symbols.{Symbols}
use Rattle.frame_symbols.specs.Batches.{PartsInside, part_of}
use Rattle.frame_symbols.specs.HeldSymbols.{AreRead}
use Rattle.celt_session.specs.declared.frame_batch.FrameBatch.{FrameBatch}
use Rattle.celt_session.specs.declared.frame_batch.Place.{Place}
use Rattle.celt_session.specs.Frames.{Frame, framed, page_frames}

-- ---- THE FRAMES THAT ARE HELD

abbrev pub slots_in : FrameBatch → List FrameSlot
slots_in b = take b.count b.slots.items

abbrev pub frame_of : List ℕ → FrameSlot → Frame
frame_of bytes slot = framed slot.kind (part_of bytes slot)

abbrev pub frames_in : FrameBatch → List Frame
frames_in b = map (frame_of b.bytes.items) (slots_in b)

-- There is room for 16 frames, and those that are held are parts of the bytes.
pub record HasBatchRooms (b : FrameBatch) : Type 0 where
  pub bytes : 20400 ≤ vec_capacity b.bytes
  pub slots : length b.slots.items ≡ 16
  pub few : b.count ≤ 16
  pub short : length b.bytes.items ≤ b.count * 1275
  pub parts : PartsInside b.bytes.items (slots_in b)

-- ---- WHAT IS READ

-- the symbols are those of a frame, if it is not concealed
abbrev pub HoldsReading : Kind → List ℕ → Symbols → Type 0
HoldsReading kind bytes symbols = 2 ≤ length bytes → AreRead kind bytes symbols

abbrev pub IsRead : FrameBatch → Type 0
IsRead b = (k : ℕ) (d : FrameSlot) → k < length (slots_in b)
    → HoldsReading (slice_index_or (slots_in b) k d).kind (part_of b.bytes.items (slice_index_or (slots_in b) k d)) (slice_index_or (slots_in b) k d).symbols

-- frame i of those that are held
pub record IsHeldFrame (b : FrameBatch) (i : ℕ) (kind : Kind) (bytes : List ℕ) (symbols : Symbols) : Type 0 where
  pub item : slice_get (frames_in b) i ≡ Some (framed kind bytes)
  pub short : length bytes ≤ 1275
  pub read : HoldsReading kind bytes symbols

-- ---- THE FRAMES THAT ARE LEFT

-- the frames of packets from a place on: those of its own packet, and of the packets behind
abbrev pub left_from : Place → List (List ℕ) → List Frame
left_from place packets = drop place.frame (page_frames (take 1 (drop place.packet packets))) ++ page_frames (drop (place.packet + 1) packets)

-- how many frames may stand before a place: a packet has 48 at most
abbrev pub position : Place → ℕ
position place = 48 * place.packet + place.frame
