use Rattle.std.proofs.Common.{◌≡◌, ◌*◌, ◌/◌, ◌%◌, ◌<◌, ◌^◌, ◌∙◌, ap, arith}
use Rattle.mdct_fixed.specs.Numbers.{at, angle_at}
use Rattle.mdct_fixed.proofs.JoinLemmas.{angle_below, going_within, going_next, going_end}
use Rattle.mdct_fixed.proofs.joins.column_2.Goals as goal

pub angle_of-w-requires : goal.angle_of-w-requires
angle_of-w-requires c = let low : 15360 / c.args.runs.len * c.args.c < 7680 = angle_below 2 (c.args.runs.len / 2) c.args.runs.len c.args.c (omega arith) (omega arith) (omega arith) c.requires.divides c.requires.column in omega arith

pub row_2-requires-clause-within : goal.row_2-requires-clause-within
row_2-requires-clause-within c =
    going_within 2 (c.args.runs.len / 2) c.args.runs.from c.args.c c.args.runs.len c.args.runs.count (15360 / c.args.runs.len * c.args.c) c.loop-p.p (2 ^ 46) (at c.args.re.now c.args.im.now) (at c.loop-p.re c.loop-p.im)
    (omega arith) (omega arith) c.requires.column c.loop-p-test.true c.loop-p.invariant c.requires.within

pub loop-p-preserved : goal.loop-p-preserved
loop-p-preserved c =
    let low : 15360 / c.args.runs.len * c.args.c < 7680 = angle_below 2 (c.args.runs.len / 2) c.args.runs.len c.args.c (omega arith) (omega arith) (omega arith) c.requires.divides c.requires.column in
    let same : 15360 / c.args.runs.len * c.args.c ≡ 15360 / c.args.runs.len * c.args.c % 15360 = omega arith in
    going_next 2 (c.args.runs.len / 2) c.args.runs.from c.args.c c.args.runs.len c.args.runs.count (15360 / c.args.runs.len * c.args.c) c.loop-p.p (at c.args.re.now c.args.im.now) (at c.loop-p.re c.loop-p.im) (at c.row_2.new.re c.row_2.new.im)
    (omega arith) (omega arith) c.requires.column c.loop-p-test.true c.loop-p.invariant (c.row_2.ensures (15360 / c.args.runs.len * c.args.c) (c.angle_of-w.ensures.value ∙ ap angle_at same))

pub returns : goal.returns
returns c =
    going_end 2 (c.args.runs.len / 2) c.args.runs.from c.args.c c.args.runs.len c.args.runs.count (15360 / c.args.runs.len * c.args.c) c.loop-p.p (at c.args.re.now c.args.im.now) (at c.loop-p.re c.loop-p.im)
    (omega arith) (omega arith) c.requires.column (omega arith) c.loop-p.invariant
