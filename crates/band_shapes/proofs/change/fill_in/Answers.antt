use Rattle.std.proofs.Common.{◌*◌, ◌^◌, inr, arith}
use Rattle.band_shapes.proofs.ChangeLemmas.{fill_up, fill_down, fill_fits, blocks_within}
use Rattle.band_shapes.proofs.change.fill_in.Goals as goal

pub returns-then-change-eq0-clause-value : goal.returns-then-change-eq0-clause-value
returns-then-change-eq0-clause-value c = fill_up c.args.blocks c.args.fill c.fill_paired.result c.args.change c.if-change-eq0.true c.fill_paired.ensures.value

pub returns-then-change-eq0-clause-size : goal.returns-then-change-eq0-clause-size
returns-then-change-eq0-clause-size c = c.fill_paired.ensures.size (inr (fill_fits c.args.fill c.args.blocks 8 c.requires.change.least (omega arith) c.requires.fill))

pub returns-clause-value : goal.returns-clause-value
returns-clause-value c = fill_down c.args.n c.args.blocks c.args.fill c.fill_doubled.result c.args.change c.requires.change c.if-change-eq0.false c.fill_doubled.ensures.value

pub returns-clause-size : goal.returns-clause-size
returns-clause-size c = fill_fits c.fill_doubled.result (c.args.blocks * 2 ^ c.args.change.down) 16 (omega (arith, c.requires.change.stride, blocks_within c.args.change.stride c.requires.change.strides)) (omega arith) c.fill_doubled.ensures.size
