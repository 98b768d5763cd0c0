use Rattle.celt_session.specs.EncoderPairs.{pair_work}
use Rattle.std.proofs.Common.{◌+◌, ◌-◌, ◌≤◌, ℕ, List}
use Rattle.celt_session.specs.Makers.{HasMade, IsMaker}
use Rattle.celt_session.proofs.LastFrames.{FillsUp}
use Rattle.celt_session.proofs.ending.make_last.Given as goal

abbrev pub invariant-loop-made : goal.invariant-loop-made
invariant-loop-made g l = record {
  made_few : l.made ≤ l.frames;
  maker : IsMaker pair_work l.plan l.maker;
  some : 1 ≤ l.made → 1 ≤ l.maker.packer.count;
  sum : l.maker.packer.packets + l.maker.packer.count ≤ l.fn.maker.packer.packets + l.fn.maker.packer.count + l.made;
  fills : (heard : List ℕ) (done : ℕ) → HasMade pair_work l.plan heard done l.fn.maker
      → FillsUp pair_work l.plan heard (done + l.made) l.fn.maker.packer.packets l.maker (g.K.Sink.held l.fn.output) (g.K.Sink.held l.output);
  kept : g.K.Sink.faults l.fn.output ≤ g.K.Sink.faults l.output;
}

abbrev pub decreases-loop-made : goal.decreases-loop-made
decreases-loop-made g l = l.frames - l.made
