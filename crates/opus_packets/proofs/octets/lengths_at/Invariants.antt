use Rattle.opus_packets.proofs.Codings.{Reading}
use Rattle.opus_packets.proofs.octets.lengths_at.Given as goal

abbrev pub invariant-loop : goal.invariant-loop
invariant-loop l = Reading l.n l.bytes l.counter l.taken l.values.items
