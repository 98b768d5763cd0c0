use Rattle.std.proofs.Common.{drop}
use Rattle.opus_stream.proofs.Tallying.{Tallying}
use Rattle.opus_stream.proofs.packets.tally_of.Given as goal

abbrev pub invariant-loop-value : goal.invariant-loop-value
invariant-loop-value l =
    Tallying l.lacing l.bytes l.before l.number l.tally.packets l.tally.samples l.tally.len l.end (drop l.value-index l.lacing)
