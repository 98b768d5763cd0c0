use Rattle.std.proofs.Common.{◌∙◌, ◌^◌, arith, length}
use Rattle.band_shapes.proofs.ChangeLemmas.{blocks_some, blocks_within}
use Rattle.band_shapes.proofs.ChannelLemmas.{whole_runs, all_at_most, times_one, down_bound}
use Rattle.band_shapes.proofs.channels.steps_back.Goals as goal

pub haar_down-requires : goal.haar_down-requires
haar_down-requires c = record {
  count = c.requires.count;
  stride = (blocks_some c.args.blocks c.requires.change.band, blocks_within c.args.blocks c.requires.change.band);
  steps = c.requires.change.down;
  runs = whole_runs (length c.args.x.now) c.args.blocks c.requires.change.runs;
  even = c.requires.change.lower;
  items = all_at_most (2 ^ 17) (2 ^ 30) c.args.x.now (omega arith) c.requires.items;
}

pub haar_up-requires : goal.haar_up-requires
haar_up-requires c = record {
  count = omega (arith, c.haar_down.auto.x, c.requires.count);
  stride = (omega arith, omega arith);
  steps = c.requires.change.up;
  runs = c.haar_down.auto.x ∙ times_one (length c.args.x.now);
  even = c.requires.change.upper;
  items = down_bound c.args.blocks c.args.change.down c.args.x.now c.haar_down.new.x c.requires.change.down c.haar_down.ensures c.requires.items;
}
