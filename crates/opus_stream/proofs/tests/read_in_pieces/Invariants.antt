use Rattle.std.proofs.Common.{◌≡◌, ◌≤◌, length}
use Rattle.opus_stream.specs.Readers.{bytes_fed}
use Rattle.opus_stream.proofs.tests.read_in_pieces.Given as goal

abbrev pub invariant-loop : goal.invariant-loop
invariant-loop l = record { fed : bytes_fed l.reader ≡ l.at; inside : l.at ≤ length l.bytes }
