use Rattle.std.proofs.Common.{◌≤◌, take}
use Rattle.std.specs.Io.KnownBytes.{Appends}
use Rattle.frame_symbols.specs.Readings.{range_of}
use Rattle.celt_session.specs.FrameBatches.{frames_in}
use Rattle.celt_session.specs.Lines.{lines_from}
use Rattle.celt_session.proofs.lines.write_batch.Given as goal

abbrev pub invariant-loop-i : goal.invariant-loop-i
invariant-loop-i g l = record {
  goes : Appends (g.K.Sink.held l.fn.output) (g.K.Sink.held l.output) (lines_from range_of l.fn.first (take l.i (frames_in l.fn.batch)));
  kept : g.K.Sink.faults l.fn.output ≤ g.K.Sink.faults l.output;
}
