use Rattle.std.proofs.Common.{◌≡◌, ◌*◌, ◌≤◌, take}
use Rattle.celt_synth.specs.Decoders.{with_state}
use Rattle.celt_session.specs.FrameBatches.{frames_in}
use Rattle.celt_session.specs.Samples.{Sounds}
use Rattle.celt_session.specs.Playing.{decoder_step, target_for}
use Rattle.celt_session.proofs.playing.write_batch.Given as goal

abbrev pub invariant-loop-i : goal.invariant-loop-i
invariant-loop-i g l = record {
  same : l.decoder ≡ with_state l.fn.decoder l.decoder.state;
  sounds : Sounds decoder_step l.fn.decoder.state (target_for l.fn.decoder l.fn.playing) (take l.i (frames_in l.fn.batch))
      (l.fn.playing.channels * l.fn.playing.span.from) (l.fn.playing.channels * l.fn.playing.span.to) l.decoder.state (l.fn.playing.channels * l.span.from) (l.fn.playing.channels * l.span.to)
      (g.K.Sink.held l.fn.output) (g.K.Sink.held l.output);
  kept : g.K.Sink.faults l.fn.output ≤ g.K.Sink.faults l.output;
}
