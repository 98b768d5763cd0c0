use Rattle.std.proofs.Common.{◌*◌, ◌/◌, ◌^◌, arith}
use Rattle.mdct_fixed.specs.Numbers.{at}
use Rattle.mdct_fixed.proofs.JoinLemmas.{angle_below, going_within, going_next, going_end}
use Rattle.mdct_fixed.proofs.joins.column_4.Goals as goal

pub three_angles-w-requires : goal.three_angles-w-requires
three_angles-w-requires c = angle_below 4 (c.args.runs.len / 4) c.args.runs.len c.args.c (omega arith) (omega arith) (omega arith) c.requires.divides c.requires.column

pub row_4-requires-clause-within : goal.row_4-requires-clause-within
row_4-requires-clause-within c =
    going_within 4 (c.args.runs.len / 4) c.args.runs.from c.args.c c.args.runs.len c.args.runs.count (15360 / c.args.runs.len * c.args.c) c.loop-p.p (2 ^ 46) (at c.args.re.now c.args.im.now) (at c.loop-p.re c.loop-p.im)
    (omega arith) (omega arith) c.requires.column c.loop-p-test.true c.loop-p.invariant c.requires.within

pub loop-p-preserved : goal.loop-p-preserved
loop-p-preserved c =
    going_next 4 (c.args.runs.len / 4) c.args.runs.from c.args.c c.args.runs.len c.args.runs.count (15360 / c.args.runs.len * c.args.c) c.loop-p.p (at c.args.re.now c.args.im.now) (at c.loop-p.re c.loop-p.im) (at c.row_4.new.re c.row_4.new.im)
    (omega arith) (omega arith) c.requires.column c.loop-p-test.true c.loop-p.invariant (c.row_4.ensures (15360 / c.args.runs.len * c.args.c) c.three_angles-w.ensures.value)

pub returns : goal.returns
returns c =
    going_end 4 (c.args.runs.len / 4) c.args.runs.from c.args.c c.args.runs.len c.args.runs.count (15360 / c.args.runs.len * c.args.c) c.loop-p.p (at c.args.re.now c.args.im.now) (at c.loop-p.re c.loop-p.im)
    (omega arith) (omega arith) c.requires.column (omega arith) c.loop-p.invariant
