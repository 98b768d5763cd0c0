-- Frames that are gathered into a batch.
use Rattle.std.proofs.Common.{◌≡◌, ℕ, suc, ◌+◌, ◌-◌, ◌<◌, ◌≤◌, List, [], ◌∷◌, ◌++◌, length, take, drop, map, slice_set, refl, sym, ◌∙◌, ap, subst, arith, append_assoc, append-nil, length-append, length-drop, length-set, get_or-take, Some, vec_capacity}
use Rattle.std.specs.Prelude.{slice_get, slice_index_or, slice_range, option_map}
use Rattle.std.proofs.lemmas.List.{take_all, drop_all, drop-drop, drop-take, drop_more, take-append-le, drop-append-le, map-append, length-map, take_more_set, length-take-le}
use Rattle.std.proofs.lemmas.List.Elements.{All-weaker, All-push, All-same}
use Rattle.std.proofs.lemmas.Option.{slice_get_within, get_or_from_slice_get, slice_get-get_or, slice_get-map}
use Rattle.celt_base.specs.declared.kind.Kind.{Kind}
use Rattle.frame_symbols.specs.declared.batch.FrameSlot.{FrameSlot}
use Rattle.frame_symbols.specs.HeldSymbols.{AreRead}
use Rattle.frame_symbols.specs.Batches.{IsPart, PartsInside, part_of, ReadsSlot, ReadsSlots}
use Rattle.celt_session.specs.declared.frame_batch.FrameBatch.{FrameBatch}
use Rattle.celt_session.specs.Frames.{Frame, framed, packet_frames, page_frames}
use Rattle.celt_session.specs.FrameBatches.{slots_in, frame_of, frames_in, HasBatchRooms, left_from, HoldsReading, IsRead, IsHeldFrame}

-- ---- a frame more

part_stays : (bytes more : List ℕ) (slot : FrameSlot) → slot.to ≤ length bytes → part_of (bytes ++ more) slot ≡ part_of bytes slot
part_stays bytes more slot inside = ap (drop slot.from) (take-append-le slot.to bytes more inside)

part_added : (bytes more : List ℕ) (slot : FrameSlot) → slot.from ≡ length bytes → slot.to ≡ length (bytes ++ more) → part_of (bytes ++ more) slot ≡ more
part_added bytes more slot from to =
    ap (drop slot.from) (take_all slot.to (bytes ++ more) (omega (arith, to)))
    ∙ ap (λ n. drop n (bytes ++ more)) from ∙ drop-append-le (length bytes) bytes more (omega arith) ∙ ap (λ l. l ++ more) (drop_all (length bytes) bytes (omega arith))

frames_stay : (bytes more : List ℕ) (slots : List FrameSlot) → PartsInside bytes slots → map (frame_of (bytes ++ more)) slots ≡ map (frame_of bytes) slots
frames_stay bytes more [] all = refl
frames_stay bytes more (slot ∷ slots) all =
    ap (λ p. framed slot.kind p ∷ map (frame_of (bytes ++ more)) slots) (part_stays bytes more slot (all 0 slot (omega arith)).inside)
    ∙ ap (λ l. frame_of bytes slot ∷ l) (frames_stay bytes more slots (λ k d less. all (suc k) d (omega (arith, less))))

-- it is behind those that were held
pub record Pushed (old now : FrameBatch) (kind : Kind) (frame : List ℕ) (slot : FrameSlot) : Type 0 where
  pub bytes : now.bytes.items ≡ old.bytes.items ++ frame
  pub room : vec_capacity old.bytes ≤ vec_capacity now.bytes
  pub slots : now.slots.items ≡ slice_set old.slots.items old.count slot
  pub from : slot.from ≡ length old.bytes.items
  pub to : slot.to ≡ length now.bytes.items
  pub kind_is : slot.kind ≡ kind
  pub count : now.count ≡ old.count + 1
  pub short : length frame ≤ 1275
  pub free : old.count < 16

module _ (old now : FrameBatch) (kind : Kind) (frame : List ℕ) (slot : FrameSlot) (rooms : HasBatchRooms old) (p : Pushed old now kind frame slot) where
  slots_more : slots_in now ≡ slots_in old ++ slot ∷ []
  slots_more =
      let size = rooms.slots in
      let free = p.free in
      ap (λ n. take n now.slots.items) p.count ∙ ap (take (old.count + 1)) p.slots ∙ take_more_set old.slots.items old.count slot (omega (arith, size, free))

  to_is : slot.to ≡ length (old.bytes.items ++ frame)
  to_is = p.to ∙ ap length p.bytes

  pub pushed_frames : frames_in now ≡ frames_in old ++ framed kind frame ∷ []
  pushed_frames =
      let all = old.bytes.items ++ frame in
      ap (λ b. map (frame_of b) (slots_in now)) p.bytes ∙ ap (map (frame_of all)) slots_more ∙ map-append (frame_of all) (slots_in old) (slot ∷ [])
      ∙ ap (λ l. l ++ frame_of all slot ∷ []) (frames_stay old.bytes.items frame (slots_in old) rooms.parts)
      ∙ ap (λ b. frames_in old ++ framed slot.kind b ∷ []) (part_added old.bytes.items frame slot p.from to_is)
      ∙ ap (λ k. frames_in old ++ framed k frame ∷ []) p.kind_is

  part_is : IsPart (old.bytes.items ++ frame) slot
  part_is =
      let joined = length-append old.bytes.items frame in
      let from = p.from in
      let to = to_is in
      let short = p.short in
      record { rises = omega (arith, joined, from, to); inside = omega (arith, to); most = omega (arith, joined, from, to, short) }

  stays : (s : FrameSlot) → IsPart old.bytes.items s → IsPart (old.bytes.items ++ frame) s
  stays s is =
      let joined = length-append old.bytes.items frame in
      let inside = is.inside in
      record { rises = is.rises; inside = omega (arith, joined, inside); most = is.most }

  parts_more : PartsInside (old.bytes.items ++ frame) (slots_in old ++ slot ∷ [])
  parts_more =
      All-push (IsPart (old.bytes.items ++ frame)) (slots_in old) slot
      (All-weaker (IsPart old.bytes.items) (IsPart (old.bytes.items ++ frame)) stays (slots_in old) rooms.parts) part_is

  pub pushed_rooms : HasBatchRooms now
  pushed_rooms =
      let joined = ap length p.bytes ∙ length-append old.bytes.items frame in
      let count = p.count in
      let free = p.free in
      let short = p.short in
      let before = rooms.short in
      record {
        bytes = let a = rooms.bytes in let b = p.room in omega (arith, a, b);
        slots = ap length p.slots ∙ length-set old.slots.items old.count slot ∙ rooms.slots;
        few = omega (arith, count, free);
        short = omega (arith, joined, count, short, before);
        parts = subst (λ b. PartsInside b (slots_in now)) (sym p.bytes) (All-same (IsPart (old.bytes.items ++ frame)) (slots_in now) (slots_in old ++ slot ∷ []) slots_more parts_more);
      }

pub push_room : (b : FrameBatch) (frame : List ℕ) → HasBatchRooms b → b.count < 16 → length frame ≤ 1275 → length b.bytes.items + length frame ≤ vec_capacity b.bytes
push_room b frame rooms free short = let size = rooms.short in let room = rooms.bytes in omega (arith, size, room, free, short)

-- no frame
pub emptied_frames : (b : FrameBatch) → b.count ≡ 0 → frames_in b ≡ []
emptied_frames b e = ap (λ n. map (frame_of b.bytes.items) (take n b.slots.items)) e

pub emptied_parts : (b : FrameBatch) → b.count ≡ 0 → PartsInside b.bytes.items (slots_in b)
emptied_parts b e = subst (λ n. PartsInside b.bytes.items (take n b.slots.items)) (sym e) (λ k d less. absurd (omega arith))

-- ---- the frames of a packet

-- the next of them is taken in
pub taken_more : (old mid now : List Frame) (frames : List Frame) (from next : ℕ) (frame : Frame) → slice_get frames next ≡ Some frame → now ≡ mid ++ frame ∷ []
    → mid ++ drop next frames ≡ old ++ drop from frames
    → now ++ drop (next + 1) frames ≡ old ++ drop from frames
taken_more old mid now frames from next frame at is before =
    let within = slice_get_within frames next frame at in
    let cut : drop next frames ≡ frame ∷ drop (next + 1) frames =
    drop_more frames next frame within ∙ ap (λ f. f ∷ drop (next + 1) frames) (get_or_from_slice_get frames next frame frame at) in
    ap (λ l. l ++ drop (next + 1) frames) is ∙ append_assoc mid (frame ∷ []) (drop (next + 1) frames) ∙ ap (λ l. mid ++ l) (sym cut) ∙ before

-- ---- the frames that are left

pub left_at : (i frame : ℕ) (packets : List (List ℕ)) (packet : List ℕ) → slice_get packets i ≡ Some packet
    → left_from (record { packet = i; frame = frame }) packets ≡ drop frame (packet_frames packet) ++ page_frames (drop (i + 1) packets)
unfolding page_frames
left_at i frame packets packet at =
    let within = slice_get_within packets i packet at in
    let cut : drop i packets ≡ packet ∷ drop (i + 1) packets =
    drop_more packets i packet within ∙ ap (λ p. p ∷ drop (i + 1) packets) (get_or_from_slice_get packets i packet packet at) in
    ap (λ l. drop frame (page_frames (take 1 l)) ++ page_frames (drop (i + 1) packets)) cut
    ∙ ap (λ l. drop frame l ++ page_frames (drop (i + 1) packets)) (append-nil (packet_frames packet))

-- from the first frame of a packet on
page_from : (packets : List (List ℕ)) → page_frames (take 1 packets) ++ page_frames (drop 1 packets) ≡ page_frames packets
unfolding page_frames
page_from [] = refl
page_from (packet ∷ packets) = ap (λ l. l ++ page_frames packets) (append-nil (packet_frames packet))

pub left_begin : (i : ℕ) (packets : List (List ℕ)) → left_from (record { packet = i; frame = 0 }) packets ≡ page_frames (drop i packets)
left_begin i packets =
    ap (λ l. page_frames (take 1 (drop i packets)) ++ page_frames l) (sym (drop-drop 1 i packets))
    ∙ page_from (drop i packets)

-- behind the last packet
pub left_none : (i frame : ℕ) (packets : List (List ℕ)) → length packets ≤ i → left_from (record { packet = i; frame = frame }) packets ≡ []
unfolding page_frames
left_none i frame packets past =
    ap (λ l. drop frame (page_frames (take 1 l)) ++ page_frames (drop (i + 1) packets)) (drop_all i packets past)
    ∙ ap (λ l. drop frame [] ++ page_frames l) (drop_all (i + 1) packets (omega (arith, past))) ∙ ap (λ l. l ++ page_frames []) (drop_all frame [] (omega arith))

-- frames of a packet were taken in
pub gathered : (all held now : List Frame) (packets : List (List ℕ)) (i from next : ℕ) (packet : List ℕ) → slice_get packets i ≡ Some packet
    → all ≡ held ++ left_from (record { packet = i; frame = from }) packets → now ++ drop next (packet_frames packet) ≡ held ++ drop from (packet_frames packet)
    → all ≡ now ++ left_from (record { packet = i; frame = next }) packets
gathered all held now packets i from next packet at before takes =
    let rest = page_frames (drop (i + 1) packets) in
    before ∙ ap (λ l. held ++ l) (left_at i from packets packet at) ∙ sym (append_assoc held (drop from (packet_frames packet)) rest)
    ∙ ap (λ l. l ++ rest) (sym takes) ∙ append_assoc now (drop next (packet_frames packet)) rest ∙ ap (λ l. now ++ l) (sym (left_at i next packets packet at))

-- and all of them
pub gathered_whole : (all now : List Frame) (packets : List (List ℕ)) (i next : ℕ) (packet : List ℕ) → slice_get packets i ≡ Some packet
    → all ≡ now ++ left_from (record { packet = i; frame = next }) packets → drop next (packet_frames packet) ≡ []
    → all ≡ now ++ left_from (record { packet = i + 1; frame = 0 }) packets
gathered_whole all now packets i next packet at before whole =
    before ∙ ap (λ l. now ++ l) (left_at i next packets packet at ∙ ap (λ l. l ++ page_frames (drop (i + 1) packets)) whole ∙ sym (left_begin (i + 1) packets))

-- ---- what was read

-- a slot of those that are held
slot_is : (b : FrameBatch) (i : ℕ) (slot : FrameSlot) → i < b.count → slot ≡ slice_index_or b.slots.items i slot → slot ≡ slice_index_or (slots_in b) i slot
slot_is b i slot less at = at ∙ sym (get_or-take b.count b.slots.items i slot less)

held_count : (b : FrameBatch) → HasBatchRooms b → length (slots_in b) ≡ b.count
held_count b rooms = let size = rooms.slots in let few = rooms.few in length-take-le b.count b.slots.items (omega (arith, size, few))

pub frames_count : (b : FrameBatch) → HasBatchRooms b → length (frames_in b) ≡ b.count
frames_count b rooms = length-map (slots_in b) (frame_of b.bytes.items) ∙ held_count b rooms

pub held_part : (b : FrameBatch) (i : ℕ) (slot : FrameSlot) → HasBatchRooms b → i < b.count → slot ≡ slice_index_or b.slots.items i slot → IsPart b.bytes.items slot
held_part b i slot rooms less at =
    let count = held_count b rooms in
    subst (IsPart b.bytes.items) (sym (slot_is b i slot less at)) (rooms.parts i slot (omega (arith, count, less)))

part_len : (bytes : List ℕ) (s : FrameSlot) → IsPart bytes s → length (part_of bytes s) ≡ s.to - s.from
part_len bytes s part =
    let inside = part.inside in
    let a = length-drop s.from (take s.to bytes) in
    let b = length-take-le s.to bytes inside in
    omega (arith, a, b)

range_is : (from to : ℕ) (bytes : List ℕ) → from ≤ to → slice_range bytes from to ≡ drop from (take to bytes)
range_is from to bytes h = let e : to ≡ from + (to - from) = omega (arith, h) in sym (ap (λ n. drop from (take n bytes)) e ∙ drop-take from (to - from) bytes)

pub held_frame : (b : FrameBatch) (i : ℕ) (slot : FrameSlot) (bytes : List ℕ) → HasBatchRooms b → IsRead b → i < b.count → slot ≡ slice_index_or b.slots.items i slot
    → bytes ≡ slice_range b.bytes.items slot.from slot.to
    → IsHeldFrame b i slot.kind bytes slot.symbols
held_frame b i slot bytes rooms read less at is =
    let count = held_count b rooms in
    let inside : i < length (slots_in b) = omega (arith, count, less) in
    let here = slot_is b i slot less at in
    let part = held_part b i slot rooms less at in
    let same : bytes ≡ part_of b.bytes.items slot = is ∙ range_is slot.from slot.to b.bytes.items part.rises in
    record {
      item = slice_get-map (frame_of b.bytes.items) (slots_in b) i ∙ ap (option_map (frame_of b.bytes.items)) (slice_get-get_or (slots_in b) i slot inside)
          ∙ ap (λ s. Some (frame_of b.bytes.items s)) (sym here) ∙ ap (λ l. Some (framed slot.kind l)) (sym same);
      short = let size = ap length same in let len = part_len b.bytes.items slot part in let most = part.most in omega (arith, size, len, most);
      read = subst (λ l. HoldsReading slot.kind l slot.symbols) (sym same)
          (subst (λ (s : FrameSlot). HoldsReading s.kind (part_of b.bytes.items s) s.symbols) (sym here) (read i slot inside));
    }

-- ---- the frames of a batch are read

same_part : (bytes : List ℕ) (before after : FrameSlot) → ReadsSlot bytes before after → part_of bytes after ≡ part_of bytes before
same_part bytes before after r = ap (λ n. drop n (take after.to bytes)) r.from ∙ ap (λ n. drop before.from (take n bytes)) r.to

frames_same : (bytes : List ℕ) (before after : List FrameSlot) → length after ≡ length before → ReadsSlots bytes before after → map (frame_of bytes) after ≡ map (frame_of bytes) before
frames_same bytes [] [] e reads = refl
frames_same bytes [] (a ∷ rest) e reads = absurd (omega (arith, e))
frames_same bytes (b ∷ bs) [] e reads = absurd (omega (arith, e))
frames_same bytes (b ∷ bs) (a ∷ rest) e reads =
    let r : ReadsSlot bytes b a = reads 0 b (omega arith) in
    ap (λ k. framed k (part_of bytes a) ∷ map (frame_of bytes) rest) r.kind ∙ ap (λ l. framed b.kind l ∷ map (frame_of bytes) rest) (same_part bytes b a r)
    ∙ ap (λ l. frame_of bytes b ∷ l) (frames_same bytes bs rest (omega (arith, e)) (λ k d less. reads (suc k) d (omega (arith, less))))

-- the slots behind it, of which those of the frames were read
pub record AreReadIn (old : FrameBatch) (slots : List FrameSlot) : Type 0 where
  pub reads : ReadsSlots old.bytes.items (slots_in old) (take old.count slots)
  pub size : length slots ≡ 16

module _ (old : FrameBatch) (slots : List FrameSlot) (rooms : HasBatchRooms old) (w : AreReadIn old slots) where
  abbrev front : List FrameSlot
  front = take old.count slots

  front_count : length front ≡ old.count
  front_count = let size = w.size in let few = rooms.few in length-take-le old.count slots (omega (arith, size, few))

  pub read_frames : map (frame_of old.bytes.items) front ≡ frames_in old
  read_frames = frames_same old.bytes.items (slots_in old) front (front_count ∙ sym (held_count old rooms)) w.reads

  reads_at : (k : ℕ) (d : FrameSlot) → k < length front → ReadsSlot old.bytes.items (slice_index_or (slots_in old) k d) (slice_index_or front k d)
  reads_at k d less = let count = held_count old rooms in let size = front_count in w.reads k d (omega (arith, count, size, less))

  part_before : (k : ℕ) (d : FrameSlot) → k < length front → IsPart old.bytes.items (slice_index_or (slots_in old) k d)
  part_before k d less = let count = held_count old rooms in let size = front_count in rooms.parts k d (omega (arith, count, size, less))

  pub read_parts : PartsInside old.bytes.items front
  read_parts k d less =
      let r = reads_at k d less in
      let part = part_before k d less in
      let from = r.from in
      let to = r.to in
      let rises = part.rises in
      let inside = part.inside in
      let most = part.most in
      record { rises = omega (arith, from, to, rises); inside = omega (arith, to, inside); most = omega (arith, from, to, most) }

  held_reading : (s t : FrameSlot) → ReadsSlot old.bytes.items s t → IsPart old.bytes.items s → HoldsReading t.kind (part_of old.bytes.items t) t.symbols
  held_reading s t r part two =
      let same = same_part old.bytes.items s t r in
      let size = ap length same in
      let len = part_len old.bytes.items s part in
      subst (λ k. AreRead k (part_of old.bytes.items t) t.symbols) (sym r.kind)
      (subst (λ l. AreRead s.kind l t.symbols) (sym same) (r.read (omega (arith, two, size, len))))

  pub read_all : (k : ℕ) (d : FrameSlot) → k < length front → HoldsReading (slice_index_or front k d).kind (part_of old.bytes.items (slice_index_or front k d)) (slice_index_or front k d).symbols
  read_all k d less = held_reading (slice_index_or (slots_in old) k d) (slice_index_or front k d) (reads_at k d less) (part_before k d less)

-- as many slots as before are all of them
pub slots_left : (slots rest : List FrameSlot) (len : ℕ) → length slots ≡ len → take len (slots ++ rest) ≡ slots
slots_left slots rest len size = take-append-le len slots rest (omega (arith, size)) ∙ take_all len slots (omega (arith, size))
