use Rattle.std.proofs.Common.{◌≡◌, ◌*◌, ◌≤◌, take, sum}
use Rattle.opus_packets.proofs.octets.Lengths.total.Given as goal

abbrev pub invariant-loop-length : goal.invariant-loop-length
invariant-loop-length l = (l.total ≡ sum (take l.length-index l.length-items)) × (l.total ≤ 65535 * l.length-index)
