-- What a source and a sink in memory show: their bytes, the calls that fail, the next call and the count of faults.
use Rattle.std.specs.Prelude.{ℕ, List, drop, Option, vec_capacity}
use Rattle.celt_base.specs.declared.memory.MemSource.{MemSource}
use Rattle.celt_base.specs.declared.memory.MemSink.{MemSink}
use Rattle.celt_base.specs.Memory.{unread, unread_pieces}

abbrev pub unread_of : MemSource → List ℕ
unread_of s = unread (drop s.piece s.pieces.items) s.start

abbrev pub pieces_of : MemSource → List (List ℕ)
pieces_of s = unread_pieces (drop s.piece s.pieces.items) s.start

abbrev pub source_names : MemSource → List ℕ
source_names s = s.failures.named.items

abbrev pub source_call : MemSource → Option ℕ
source_call s = s.failures.call

abbrev pub source_faults : MemSource → ℕ
source_faults s = s.failures.faults

abbrev pub held_of : MemSink → List ℕ
held_of s = s.bytes.items

-- How many bytes it has memory for.
abbrev pub room_of : MemSink → ℕ
room_of s = vec_capacity s.bytes

abbrev pub sink_names : MemSink → List ℕ
sink_names s = s.failures.named.items

abbrev pub sink_call : MemSink → Option ℕ
sink_call s = s.failures.call

abbrev pub sink_faults : MemSink → ℕ
sink_faults s = s.failures.faults
