use Rattle.std.proofs.Common.{◌≡◌, ℕ, ◌<◌, length, take, drop, map, sym, ap, subst, ◌∙◌, arith}
use Rattle.std.specs.Prelude.{slice_index_or}
use Rattle.frame_symbols.specs.declared.batch.FrameSlot.{FrameSlot}
use Rattle.frame_symbols.specs.Batches.{PartsInside, ReadsSlots, part_of}
use Rattle.celt_session.specs.FrameBatches.{frame_of, HoldsReading}
use Rattle.celt_session.proofs.Gathering.{slots_left, read_frames, read_parts, read_all}
use Rattle.celt_session.proofs.frame_batch.FrameBatch.read.Goals as goal

pub read_slots-requires-clause-parts : goal.read_slots-requires-clause-parts
read_slots-requires-clause-parts g c = λ κs lives.
    subst (λ b. PartsInside b (take c.args.self.now.count c.as_mut_slice.result.now)) (sym c.deref.ensures.value)
    (subst (λ l. PartsInside c.args.self.now.bytes.items (take c.args.self.now.count l)) (sym c.as_mut_slice.ensures.value) c.requires.parts)

pub returns-clause-rooms : goal.returns-clause-rooms
returns-clause-rooms g c =
    let w = c.args.self.now in
    let now = c.read_slots.new.slots in
    let same = ap length c.as_mut_slice.ensures.value in
    let size : length now ≡ 16 = let a = c.requires.slots in let b = c.read_slots.ensures.len in omega (arith, a, b, same) in
    let all : length now ≡ w.slots.len = let a = c.requires.slots in let b = w.slots.ok.0 in omega (arith, a, b, size) in
    let whole = slots_left now (drop (length now) w.slots.items) w.slots.len all in
    let reads : ReadsSlots w.bytes.items (take w.count w.slots.items) (take w.count now) =
    subst (λ b. ReadsSlots b (take w.count w.slots.items) (take w.count now)) c.deref.ensures.value
    (subst (λ l. ReadsSlots c.deref.result.now (take w.count l) (take w.count now)) c.as_mut_slice.ensures.value c.read_slots.ensures.reads) in
    record {
      bytes = c.requires.bytes;
      slots = ap length whole ∙ size;
      few = c.requires.few;
      short = c.requires.short;
      parts = subst (λ l. PartsInside w.bytes.items (take w.count l)) (sym whole) (read_parts w now c.requires (record { reads = reads; size = size }));
    }

pub returns-clause-frames : goal.returns-clause-frames
returns-clause-frames g c =
    let w = c.args.self.now in
    let now = c.read_slots.new.slots in
    let same = ap length c.as_mut_slice.ensures.value in
    let size : length now ≡ 16 = let a = c.requires.slots in let b = c.read_slots.ensures.len in omega (arith, a, b, same) in
    let all : length now ≡ w.slots.len = let a = c.requires.slots in let b = w.slots.ok.0 in omega (arith, a, b, size) in
    let whole = slots_left now (drop (length now) w.slots.items) w.slots.len all in
    let reads : ReadsSlots w.bytes.items (take w.count w.slots.items) (take w.count now) =
    subst (λ b. ReadsSlots b (take w.count w.slots.items) (take w.count now)) c.deref.ensures.value
    (subst (λ l. ReadsSlots c.deref.result.now (take w.count l) (take w.count now)) c.as_mut_slice.ensures.value c.read_slots.ensures.reads) in
    ap (λ l. map (frame_of w.bytes.items) (take w.count l)) whole ∙ read_frames w now c.requires (record { reads = reads; size = size })

pub returns-clause-read : goal.returns-clause-read
returns-clause-read g c =
    let w = c.args.self.now in
    let now = c.read_slots.new.slots in
    let same = ap length c.as_mut_slice.ensures.value in
    let size : length now ≡ 16 = let a = c.requires.slots in let b = c.read_slots.ensures.len in omega (arith, a, b, same) in
    let all : length now ≡ w.slots.len = let a = c.requires.slots in let b = w.slots.ok.0 in omega (arith, a, b, size) in
    let whole = slots_left now (drop (length now) w.slots.items) w.slots.len all in
    let reads : ReadsSlots w.bytes.items (take w.count w.slots.items) (take w.count now) =
    subst (λ b. ReadsSlots b (take w.count w.slots.items) (take w.count now)) c.deref.ensures.value
    (subst (λ l. ReadsSlots c.deref.result.now (take w.count l) (take w.count now)) c.as_mut_slice.ensures.value c.read_slots.ensures.reads) in
    subst (λ l. (k : ℕ) (d : FrameSlot) → k < length (take w.count l) → HoldsReading (slice_index_or (take w.count l) k d).kind (part_of w.bytes.items (slice_index_or (take w.count l) k d)) (slice_index_or (take w.count l) k d).symbols)
    (sym whole) (read_all w now c.requires (record { reads = reads; size = size }))
