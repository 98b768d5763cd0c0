use Rattle.std.proofs.Common.{◌≡◌, ℕ, ◌+◌, ◌≤◌, List}
use Rattle.ogg_pages.specs.Fields.{Page}
use Rattle.opus_stream.specs.Readers.{bytes_fed, bytes_held}
use Rattle.celt_session.specs.Sessions.{Along}
use Rattle.celt_session.proofs.Going.{Went}
use Rattle.celt_session.specs.PageWorks.{page_work}
use Rattle.celt_session.proofs.giving.give_pages.Given as goal

abbrev pub invariant-pages : goal.invariant-pages
invariant-pages g l = record {
  goes : (start : page_work.function.State) (bytes : List ℕ) (front : List Page) → Along page_work start l.fn.reader l.fn.work bytes front
      → Went page_work start bytes front l.reader l.work (g.K.Sink.held l.fn.output) (g.K.Sink.held l.output);
  few : page_work.count l.work + bytes_held l.reader ≤ page_work.count l.fn.work + bytes_held l.fn.reader;
  fed : bytes_fed l.reader ≡ bytes_fed l.fn.reader;
  kept : g.K.Sink.faults l.fn.output ≤ g.K.Sink.faults l.output;
}

abbrev pub decreases-pages : goal.decreases-pages
decreases-pages g l = bytes_held l.reader
