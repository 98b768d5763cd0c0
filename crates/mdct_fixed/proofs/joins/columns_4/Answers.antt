use Rattle.std.proofs.Common.{◌≡◌, ◌/◌, ◌^◌, arith, subst}
use Rattle.mdct_fixed.specs.Numbers.{at}
use Rattle.mdct_fixed.proofs.JoinLemmas.{part_within, part_next, part_end, quotient_of, IsPartJoined}
use Rattle.mdct_fixed.proofs.joins.columns_4.Goals as goal

pub column_4-requires-clause-within : goal.column_4-requires-clause-within
column_4-requires-clause-within c =
    part_within 4 (c.args.runs.len / 4) c.args.runs.from c.args.runs.len c.args.runs.count c.loop-c.c (2 ^ 46) (at c.args.re.now c.args.im.now) (at c.loop-c.re c.loop-c.im)
    (omega arith) c.loop-c-test.true c.loop-c.invariant c.requires.within

pub loop-c-preserved : goal.loop-c-preserved
loop-c-preserved c =
    part_next 4 (c.args.runs.len / 4) c.args.runs.from c.args.runs.len c.args.runs.count c.loop-c.c (at c.args.re.now c.args.im.now) (at c.loop-c.re c.loop-c.im) (at c.column_4.new.re c.column_4.new.im)
    (omega arith) c.loop-c-test.true c.loop-c.invariant c.column_4.ensures

pub returns : goal.returns
returns c =
    let e : c.loop-c.c ≡ c.args.runs.len / 4 = omega arith in
    part_end 4 (c.args.runs.len / 4) c.args.runs.from c.args.runs.len c.args.runs.count (480 / c.args.runs.len) (at c.args.re.now c.args.im.now) (at c.loop-c.re c.loop-c.im)
    (omega arith) c.requires.some (omega arith) (quotient_of c.args.runs.len c.requires.divides)
    (subst (λ n. IsPartJoined 4 (c.args.runs.len / 4) c.args.runs.from c.args.runs.len c.args.runs.count n (at c.args.re.now c.args.im.now) (at c.loop-c.re c.loop-c.im)) e c.loop-c.invariant)
