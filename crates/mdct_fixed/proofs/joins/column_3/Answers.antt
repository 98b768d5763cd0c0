use Rattle.std.proofs.Common.{◌*◌, ◌/◌, ◌^◌, arith}
use Rattle.mdct_fixed.specs.Numbers.{at}
use Rattle.mdct_fixed.proofs.JoinLemmas.{angle_below, going_room, going_within, going_next, going_end}
use Rattle.mdct_fixed.proofs.joins.column_3.Goals as goal

pub six_angles-w-requires : goal.six_angles-w-requires
six_angles-w-requires c = angle_below 3 (c.args.runs.len / 3) c.args.runs.len c.args.c (omega arith) (omega arith) (omega arith) c.requires.divides c.requires.column

pub row_3-requires-clause-within : goal.row_3-requires-clause-within
row_3-requires-clause-within c =
    going_within 3 (c.args.runs.len / 3) c.args.runs.from c.args.c c.args.runs.len c.args.runs.count (15360 / c.args.runs.len * c.args.c) c.loop-p.p (2 ^ 46) (at c.args.re.now c.args.im.now) (at c.loop-p.re c.loop-p.im)
    (omega arith) (omega arith) c.requires.column c.loop-p-test.true c.loop-p.invariant c.requires.within

pub row_3-requires-clause-room : goal.row_3-requires-clause-room
row_3-requires-clause-room c =
    going_room 3 (c.args.runs.len / 3) c.args.runs.from c.args.c c.args.runs.len c.args.runs.count (15360 / c.args.runs.len * c.args.c) c.loop-p.p _ (at c.args.re.now c.args.im.now) (at c.loop-p.re c.loop-p.im)
    (omega arith) (omega arith) c.requires.column c.loop-p-test.true (omega arith) c.loop-p.invariant 2 (omega arith)

pub loop-p-preserved : goal.loop-p-preserved
loop-p-preserved c =
    going_next 3 (c.args.runs.len / 3) c.args.runs.from c.args.c c.args.runs.len c.args.runs.count (15360 / c.args.runs.len * c.args.c) c.loop-p.p (at c.args.re.now c.args.im.now) (at c.loop-p.re c.loop-p.im) (at c.row_3.new.re c.row_3.new.im)
    (omega arith) (omega arith) c.requires.column c.loop-p-test.true c.loop-p.invariant (c.row_3.ensures (15360 / c.args.runs.len * c.args.c) c.six_angles-w.ensures.value)

pub returns : goal.returns
returns c =
    going_end 3 (c.args.runs.len / 3) c.args.runs.from c.args.c c.args.runs.len c.args.runs.count (15360 / c.args.runs.len * c.args.c) c.loop-p.p (at c.args.re.now c.args.im.now) (at c.loop-p.re c.loop-p.im)
    (omega arith) (omega arith) c.requires.column (omega arith) c.loop-p.invariant
