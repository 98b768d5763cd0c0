use Rattle.std.proofs.Common.{◌/◌, ◌^◌, arith}
use Rattle.mdct_fixed.specs.Numbers.{at}
use Rattle.mdct_fixed.proofs.JoinLemmas.{going_room, going_within, going_next, going_end}
use Rattle.mdct_fixed.proofs.joins.first_column_3.Goals as goal

pub row_thirds-requires-clause-within : goal.row_thirds-requires-clause-within
row_thirds-requires-clause-within c =
    going_within 3 (c.args.runs.len / 3) c.args.runs.from 0 c.args.runs.len c.args.runs.count 0 c.loop-p.p (2 ^ 46) (at c.args.re.now c.args.im.now) (at c.loop-p.re c.loop-p.im)
    (omega arith) (omega arith) (omega arith) c.loop-p-test.true c.loop-p.invariant c.requires.within

pub row_thirds-requires-clause-room : goal.row_thirds-requires-clause-room
row_thirds-requires-clause-room c =
    going_room 3 (c.args.runs.len / 3) c.args.runs.from 0 c.args.runs.len c.args.runs.count 0 c.loop-p.p _ (at c.args.re.now c.args.im.now) (at c.loop-p.re c.loop-p.im)
    (omega arith) (omega arith) (omega arith) c.loop-p-test.true (omega arith) c.loop-p.invariant 2 (omega arith)

pub loop-p-preserved : goal.loop-p-preserved
loop-p-preserved c =
    going_next 3 (c.args.runs.len / 3) c.args.runs.from 0 c.args.runs.len c.args.runs.count 0 c.loop-p.p (at c.args.re.now c.args.im.now) (at c.loop-p.re c.loop-p.im) (at c.row_thirds.new.re c.row_thirds.new.im)
    (omega arith) (omega arith) (omega arith) c.loop-p-test.true c.loop-p.invariant c.row_thirds.ensures

pub returns : goal.returns
returns c =
    going_end 3 (c.args.runs.len / 3) c.args.runs.from 0 c.args.runs.len c.args.runs.count 0 c.loop-p.p (at c.args.re.now c.args.im.now) (at c.loop-p.re c.loop-p.im)
    (omega arith) (omega arith) (omega arith) (omega arith) c.loop-p.invariant
