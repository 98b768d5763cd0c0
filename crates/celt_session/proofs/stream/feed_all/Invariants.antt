use Rattle.std.proofs.Common.{◌≡◌, ℕ, ◌+◌, ◌≤◌, ◌<◌, List, [], length, false}
use Rattle.std.specs.Io.KnownBytes.{Appends, Consumes}
use Rattle.celt_session.specs.PageFunctions.{running}
use Rattle.celt_session.specs.Sessions.{StandsFor, taken_by}
use Rattle.celt_session.specs.PageWorks.{page_work}
use Rattle.celt_session.proofs.stream.feed_all.Given as goal

abbrev pub invariant-pieces : goal.invariant-pieces
invariant-pieces g l = record {
  taken : List ℕ;
  consumed : Consumes (g.S.Source.left l.fn.input) (g.S.Source.left l.input) taken;
  goes : (start : page_work.function.State) → StandsFor page_work start l.fn.session []
      → StandsFor page_work start l.session taken × Appends (g.K.Sink.held l.fn.output) (g.K.Sink.held l.output) (running page_work.function start taken);
  going : l.session.is_ended ≡ false;
  limit : length taken + l.left ≡ l.fn.limit;
  fed : taken_by l.session + l.left ≤ l.fn.limit;
  room : 0 < length l.buf;
  reads : g.S.Source.faults l.fn.input ≤ g.S.Source.faults l.input;
  kept : g.K.Sink.faults l.fn.output ≤ g.K.Sink.faults l.output;
}

abbrev pub decreases-pieces : goal.decreases-pieces
decreases-pieces g l = l.left
