use Rattle.std.proofs.Common.{◌≡◌, ◌+◌, ◌*◌, ◌/◌, ◌^◌, arith, subst}
use Rattle.mdct_fixed.specs.Numbers.{at}
use Rattle.mdct_fixed.specs.Joins.{IsColumnJoined}
use Rattle.mdct_fixed.proofs.JoinLemmas.{part_within, part_start, part_next, part_end, quotient_of, IsPartJoined}
use Rattle.mdct_fixed.proofs.joins.columns_3.Goals as goal

pub first_column_3-requires-clause-within : goal.first_column_3-requires-clause-within
first_column_3-requires-clause-within c =
    part_within 3 (c.args.runs.len / 3) c.args.runs.from c.args.runs.len c.args.runs.count 0 (2 ^ 46) (at c.args.re.now c.args.im.now) (at c.args.re.now c.args.im.now)
    (omega arith) (omega arith) (part_start 3 (c.args.runs.len / 3) c.args.runs.from c.args.runs.len c.args.runs.count (at c.args.re.now c.args.im.now)) c.requires.within

pub loop-c-init : goal.loop-c-init
loop-c-init c =
    let old = at c.args.re.now c.args.im.now in
    let new = at c.first_column_3.new.re c.first_column_3.new.im in
    let z : 0 ≡ 15360 / c.args.runs.len * 0 = omega arith in
    part_next 3 (c.args.runs.len / 3) c.args.runs.from c.args.runs.len c.args.runs.count 0 old old new
    (omega arith) (omega arith) (part_start 3 (c.args.runs.len / 3) c.args.runs.from c.args.runs.len c.args.runs.count old)
    (subst (λ a. IsColumnJoined 3 (c.args.runs.len / 3) (c.args.runs.from + 0) c.args.runs.len c.args.runs.count a old new) z c.first_column_3.ensures)

pub column_3-requires-clause-within : goal.column_3-requires-clause-within
column_3-requires-clause-within c =
    part_within 3 (c.args.runs.len / 3) c.args.runs.from c.args.runs.len c.args.runs.count c.loop-c.c (2 ^ 46) (at c.args.re.now c.args.im.now) (at c.loop-c.re c.loop-c.im)
    (omega arith) c.loop-c-test.true c.loop-c.invariant c.requires.within

pub loop-c-preserved : goal.loop-c-preserved
loop-c-preserved c =
    part_next 3 (c.args.runs.len / 3) c.args.runs.from c.args.runs.len c.args.runs.count c.loop-c.c (at c.args.re.now c.args.im.now) (at c.loop-c.re c.loop-c.im) (at c.column_3.new.re c.column_3.new.im)
    (omega arith) c.loop-c-test.true c.loop-c.invariant c.column_3.ensures

pub returns : goal.returns
returns c =
    let e : c.loop-c.c ≡ c.args.runs.len / 3 = omega arith in
    part_end 3 (c.args.runs.len / 3) c.args.runs.from c.args.runs.len c.args.runs.count (480 / c.args.runs.len) (at c.args.re.now c.args.im.now) (at c.loop-c.re c.loop-c.im)
    (omega arith) c.requires.some (omega arith) (quotient_of c.args.runs.len c.requires.divides)
    (subst (λ n. IsPartJoined 3 (c.args.runs.len / 3) c.args.runs.from c.args.runs.len c.args.runs.count n (at c.args.re.now c.args.im.now) (at c.loop-c.re c.loop-c.im)) e c.loop-c.invariant)
