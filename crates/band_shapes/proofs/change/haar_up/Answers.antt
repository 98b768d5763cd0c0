use Rattle.std.proofs.Common.{◌∙◌, arith, add-one, length}
use Rattle.band_shapes.proofs.ChangeLemmas.{runs_at, up_small, up_more, least_stride}
use Rattle.band_shapes.proofs.change.haar_up.Goals as goal

pub loop-k-preserved : goal.loop-k-preserved
loop-k-preserved c = rw add-one (up_more c.args.stride c.doubled.result c.loop-k.k c.args.x.now c.loop-k.x c.haar.new.x c.doubled.ensures c.loop-k.invariant c.haar.ensures.value)

pub haar-requires : goal.haar-requires
haar-requires c =
    let r = runs_at c.args.n c.args.stride c.loop-k.k c.args.steps (length c.loop-k.x) c.loop-k-test.true c.requires.steps c.requires.even (c.loop-k.auto.x ∙ c.requires.runs) in
    record {
      count = omega arith;
      stride = rw c.doubled.ensures (least_stride c.args.stride c.loop-k.k c.requires.stride.0);
      pairs = r.even;
      runs = rw c.doubled.ensures r.runs;
      items = up_small c.args.stride c.loop-k.k c.args.x.now c.loop-k.x (omega arith) c.loop-k.invariant c.requires.items;
    }
