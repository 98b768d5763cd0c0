use Rattle.band_shapes.proofs.ChangeLemmas.{fill_next, most_before, blocks_most, fill_none}
use Rattle.band_shapes.proofs.change.fill_doubled.Goals as goal

pub loop-k-init : goal.loop-k-init
loop-k-init c = fill_none c.args.blocks c.args.fill c.requires.fill

pub doubled-requires-clause-n : goal.doubled-requires-clause-n
doubled-requires-clause-n c = blocks_most c.args.blocks c.args.steps c.requires.most

pub twice-all-requires : goal.twice-all-requires
twice-all-requires c = record {
  blocks = rw c.doubled.ensures (most_before c.args.blocks c.loop-k.k c.args.steps c.loop-k-test.true c.requires.most);
  mask = rw c.doubled.ensures c.loop-k.invariant.1;
}

pub loop-k-preserved : goal.loop-k-preserved
loop-k-preserved c = fill_next c.args.blocks c.loop-k.k c.args.fill c.loop-k.all c.twice-all.result c.doubled.result c.doubled.ensures c.loop-k.invariant.0 c.twice-all.ensures.value c.twice-all.ensures.size
