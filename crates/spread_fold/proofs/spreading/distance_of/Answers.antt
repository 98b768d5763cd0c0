use Rattle.std.proofs.Common.{arith}
use Rattle.spread_fold.proofs.SpreadLemmas.{distance_more, distance_few, distance_none, distance_end}
use Rattle.spread_fold.proofs.spreading.distance_of.Goals as goal

pub returns-then-n-blocks-clause-value : goal.returns-then-n-blocks-clause-value
returns-then-n-blocks-clause-value c = distance_none c.args.n c.args.blocks c.if-n-blocks.true

pub loop-t-preserved : goal.loop-t-preserved
loop-t-preserved c = record {
  same = distance_more c.args.n c.args.blocks c.loop-t.t c.loop-t.invariant.few c.loop-t-test.true c.loop-t.invariant.same;
  some = omega arith;
  few = distance_few c.args.n c.args.blocks c.loop-t.t c.requires.count c.requires.low c.loop-t-test.true;
}

pub returns-clause-value : goal.returns-clause-value
returns-clause-value c = distance_end c.args.n c.args.blocks c.loop-t.t c.if-n-blocks.false c.loop-t.invariant.few c.loop-t-test.false c.loop-t.invariant.same
