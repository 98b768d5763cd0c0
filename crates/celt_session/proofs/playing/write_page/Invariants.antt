use Rattle.std.proofs.Common.{◌≡◌, ◌-◌, ◌≤◌}
use Rattle.celt_synth.specs.Decoders.{with_state}
use Rattle.celt_session.specs.Pages.{Heard, IsGiven}
use Rattle.celt_session.specs.FrameBatches.{HasBatchRooms, position}
use Rattle.celt_session.specs.Playing.{playing_in}
use Rattle.celt_session.proofs.Batched.{PlayedTo}
use Rattle.celt_session.proofs.playing.write_page.Given as goal

abbrev pub invariant-batches : goal.invariant-batches
invariant-batches g l = record {
  rooms : HasBatchRooms l.batch;
  few : l.place.frame ≤ 48;
  within : position l.place ≤ 12240;
  same : l.decoder ≡ with_state l.fn.decoder l.decoder.state;
  sounds : (heard : Heard) → IsGiven l.fn.reader heard
      → PlayedTo l.fn.decoder (playing_in l.fn.reader) heard.packets l.place l.decoder.state l.span (g.K.Sink.held l.fn.output) (g.K.Sink.held l.output);
  kept : g.K.Sink.faults l.fn.output ≤ g.K.Sink.faults l.output;
}

abbrev pub decreases-batches : goal.decreases-batches
decreases-batches g l = 12240 - position l.place
