use Rattle.std.proofs.Common.{◌≡◌}
use Rattle.opus_stream.specs.Readers.{bytes_fed, bytes_held}
use Rattle.opus_stream.proofs.tests.take_pages.Given as goal

abbrev pub invariant-pages : goal.invariant-pages
invariant-pages l = record { fed : bytes_fed l.reader ≡ bytes_fed l.fn.reader }

abbrev pub decreases-pages : goal.decreases-pages
decreases-pages l = bytes_held l.reader
