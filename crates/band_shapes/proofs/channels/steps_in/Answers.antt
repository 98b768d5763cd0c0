use Rattle.std.proofs.Common.{◌∙◌, ◌^◌, arith, length}
use Rattle.band_shapes.proofs.ChangeLemmas.{blocks_some, blocks_within}
use Rattle.band_shapes.proofs.ChannelLemmas.{whole_runs, all_at_most, times_one, up_bound}
use Rattle.band_shapes.proofs.channels.steps_in.Goals as goal

pub haar_up-requires : goal.haar_up-requires
haar_up-requires c = record {
  count = c.requires.count;
  stride = (omega arith, omega arith);
  steps = c.requires.change.up;
  runs = times_one (length c.args.x.now);
  even = c.requires.change.upper;
  items = all_at_most (2 ^ 19) (2 ^ 30) c.args.x.now (omega arith) c.requires.items;
}

pub haar_up-requires-2 : goal.haar_up-requires-2
haar_up-requires-2 c = record {
  count = omega (arith, c.haar_up.auto.x, c.requires.count);
  stride = (blocks_some c.args.blocks c.requires.change.band, blocks_within c.args.blocks c.requires.change.band);
  steps = c.requires.change.down;
  runs = c.haar_up.auto.x ∙ whole_runs (length c.args.x.now) c.args.blocks c.requires.change.runs;
  even = c.requires.change.lower;
  items = up_bound 1 c.args.change.up c.args.x.now c.haar_up.new.x c.requires.change.up c.haar_up.ensures c.requires.items;
}
