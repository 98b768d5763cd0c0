use Rattle.opus_stream.proofs.Tallying.{Looking}
use Rattle.opus_stream.proofs.packets.packet_at.Given as goal

abbrev pub invariant-loop-value : goal.invariant-loop-value
invariant-loop-value l = Looking l.lacing l.bytes l.before l.i l.count l.start l.end l.value-index
