use Rattle.std.proofs.Common.{◌≡◌, replicate}
use Rattle.opus_packets.proofs.packet.copies.Given as goal

abbrev pub invariant-loop : goal.invariant-loop
invariant-loop l = l.lengths.items ≡ replicate l.counter l.length
