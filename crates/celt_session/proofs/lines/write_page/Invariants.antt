use Rattle.std.proofs.Common.{◌+◌, ◌-◌, ◌≤◌}
use Rattle.celt_session.specs.Pages.{Heard, IsGiven}
use Rattle.celt_session.specs.FrameBatches.{HasBatchRooms, position}
use Rattle.celt_session.proofs.Batched.{LinedTo}
use Rattle.celt_session.proofs.lines.write_page.Given as goal

abbrev pub invariant-batches : goal.invariant-batches
invariant-batches g l = record {
  rooms : HasBatchRooms l.batch;
  few : l.place.frame ≤ 48;
  within : position l.place ≤ 12240;
  count : l.number ≤ l.fn.first + position l.place;
  goes : (heard : Heard) → IsGiven l.fn.reader heard → LinedTo l.fn.first heard.packets l.place l.number (g.K.Sink.held l.fn.output) (g.K.Sink.held l.output);
  kept : g.K.Sink.faults l.fn.output ≤ g.K.Sink.faults l.output;
}

abbrev pub decreases-batches : goal.decreases-batches
decreases-batches g l = 12240 - position l.place
