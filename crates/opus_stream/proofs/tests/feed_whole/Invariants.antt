use Rattle.std.proofs.Common.{◌≡◌, ◌+◌, length, true}
use Rattle.opus_stream.specs.Readers.{bytes_fed}
use Rattle.opus_stream.proofs.tests.feed_whole.Given as goal

abbrev pub invariant-pieces : goal.invariant-pieces
invariant-pieces l = record {
  fed : bytes_fed l.reader + length l.rest ≡ bytes_fed l.fn.reader + length l.fn.piece;
  settled : l.reader.is_settled ≡ true;
}

abbrev pub decreases-pieces : goal.decreases-pieces
decreases-pieces l = length l.rest
