use Rattle.std.proofs.Common.{◌≡◌, ◌+◌, take, sum}
use Rattle.opus_packets.proofs.frames.Frames.start.Given as goal

abbrev pub invariant-loop-k : goal.invariant-loop-k
invariant-loop-k l = l.start ≡ l.self-inside.first + sum (take l.k l.self-inside.lengths.items)
