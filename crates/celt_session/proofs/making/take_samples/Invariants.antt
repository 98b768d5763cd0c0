use Rattle.celt_session.specs.EncoderPairs.{pair_work}
use Rattle.std.proofs.Common.{◌≡◌, ◌+◌, ◌*◌, ◌≤◌, ◌++◌, ℕ, List, length}
use Rattle.celt_session.specs.Makers.{HasMade, IsMaker, TakesAll, GoesOn}
use Rattle.celt_session.proofs.making.take_samples.Given as goal

abbrev pub invariant-loop-rest : goal.invariant-loop-rest
invariant-loop-rest g l = record {
  consumed : List ℕ;
  split : l.piece ≡ consumed ++ l.rest;
  maker : IsMaker pair_work l.plan l.maker;
  going : GoesOn l.plan l.maker;
  sum : l.maker.packer.packets + l.maker.packer.count + length l.maker.framer.held.items ≤ l.fn.maker.packer.packets + l.fn.maker.packer.count + length l.fn.maker.framer.held.items + length consumed;
  taken : (heard : List ℕ) (batches : ℕ) → HasMade pair_work l.plan heard (16 * batches) l.fn.maker
      → TakesAll pair_work l.plan (heard ++ consumed) l.fn.maker.packer.packets l.maker (g.K.Sink.held l.fn.output) (g.K.Sink.held l.output);
  kept : g.K.Sink.faults l.fn.output ≤ g.K.Sink.faults l.output;
}

abbrev pub decreases-loop-rest : goal.decreases-loop-rest
decreases-loop-rest g l = length l.rest
