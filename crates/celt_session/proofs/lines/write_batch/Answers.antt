use Rattle.std.proofs.Common.{◌+◌, ◌≤◌, length, refl, arith}
use Rattle.frame_symbols.specs.Readings.{range_of}
use Rattle.celt_session.specs.Frames.{framed}
use Rattle.celt_session.specs.FrameBatches.{frames_in}
use Rattle.celt_session.specs.Lines.{line_of, final_range}
use Rattle.celt_session.proofs.Gathering.{frames_count}
use Rattle.celt_session.proofs.Lining.{lines_start, line_more, line_failed, lines_done}
use Rattle.celt_session.proofs.lines.write_batch.Goals as goal

pub loop-i-init : goal.loop-i-init
loop-i-init g c = record { goes = lines_start range_of c.args.first (g.K.Sink.held c.args.output.now); kept = omega arith }

pub returns-in_default-clause-lines : goal.returns-in_default-clause-lines
returns-in_default-clause-lines g c =
    let frame = framed c.frame.result.kind c.frame.result.bytes.now in
    line_failed range_of c.args.first (frames_in c.args.batch.now) c.loop-i.i frame (line_of (c.args.first + c.loop-i.i) (length frame.bytes) (final_range range_of frame))
    (g.K.Sink.held c.args.output.now) (g.K.Sink.held c.loop-i.output) (g.K.Sink.held c.write_line.new.output) c.frame.ensures.item refl c.loop-i.invariant.goes c.in_default.ensures.bytes

pub loop-i-preserved : goal.loop-i-preserved
loop-i-preserved g c =
    let frame = framed c.frame.result.kind c.frame.result.bytes.now in
    let kept : g.K.Sink.faults c.args.output.now ≤ g.K.Sink.faults c.loop-i.output = c.loop-i.invariant.kept in
    let more : g.K.Sink.faults c.loop-i.output ≤ g.K.Sink.faults c.write_line.new.output = c.in-Ok.ensures.cause in
    record {
      goes = line_more range_of c.args.first (frames_in c.args.batch.now) c.loop-i.i frame (line_of (c.args.first + c.loop-i.i) (length frame.bytes) (final_range range_of frame))
          (g.K.Sink.held c.args.output.now) (g.K.Sink.held c.loop-i.output) (g.K.Sink.held c.write_line.new.output) c.frame.ensures.item refl c.loop-i.invariant.goes c.in-Ok.ensures.bytes;
      kept = omega arith;
    }

pub returns-clause-lines : goal.returns-clause-lines
returns-clause-lines g c =
    let many = frames_count c.args.batch.now c.requires.rooms in
    let count = c.len.ensures in
    let end = c.len-i-end.ensures in
    let past = c.loop-i-test.false in (
      omega arith,
      lines_done range_of c.args.first (frames_in c.args.batch.now) c.loop-i.i (g.K.Sink.held c.args.output.now) (g.K.Sink.held c.loop-i.output) (omega arith) c.loop-i.invariant.goes,
    )
