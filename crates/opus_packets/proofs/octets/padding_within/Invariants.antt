use Rattle.opus_packets.proofs.Codings.{Padded}
use Rattle.opus_packets.proofs.octets.padding_within.Given as goal

abbrev pub invariant-loop-i : goal.invariant-loop-i
invariant-loop-i l = Padded l.bytes l.i l.value
