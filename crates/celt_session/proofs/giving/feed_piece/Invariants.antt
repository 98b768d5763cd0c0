use Rattle.std.proofs.Common.{◌≡◌, ℕ, ◌+◌, ◌≤◌, List, ◌++◌, length, true}
use Rattle.opus_stream.specs.Readers.{bytes_fed, bytes_held}
use Rattle.celt_session.specs.Sessions.{IsFed}
use Rattle.celt_session.proofs.Going.{Fed}
use Rattle.celt_session.specs.PageWorks.{page_work}
use Rattle.celt_session.proofs.giving.feed_piece.Given as goal

abbrev pub invariant-pieces : goal.invariant-pieces
invariant-pieces g l = record {
  taken : List ℕ;
  split : taken ++ l.rest ≡ l.fn.piece;
  goes : (start : page_work.function.State) (bytes : List ℕ) → IsFed page_work start l.fn.reader l.fn.work bytes
      → Fed page_work start bytes taken l.reader l.work (g.K.Sink.held l.fn.output) (g.K.Sink.held l.output);
  settled : l.reader.is_settled ≡ true;
  few : page_work.count l.work + bytes_held l.reader ≤ bytes_fed l.reader;
  fed : bytes_fed l.reader + length l.rest ≡ bytes_fed l.fn.reader + length l.fn.piece;
  kept : g.K.Sink.faults l.fn.output ≤ g.K.Sink.faults l.output;
}

abbrev pub decreases-pieces : goal.decreases-pieces
decreases-pieces g l = length l.rest
