use Rattle.std.proofs.Common.{◌≡◌, ◌+◌, ◌*◌, ◌/◌, ◌^◌, ◌≤◌, ap, arith, subst}
use Rattle.mdct_fixed.specs.Numbers.{at}
use Rattle.mdct_fixed.specs.Joins.{AreJoined, IsColumnJoined}
use Rattle.mdct_fixed.proofs.JoinLemmas.{going_within, going_next, going_end, part_start, part_next, part_end}
use Rattle.mdct_fixed.proofs.joins.columns_5.Goals as goal

pub row_5-requires-clause-within : goal.row_5-requires-clause-within
row_5-requires-clause-within c =
    going_within 5 1 c.args.runs.from 0 c.args.runs.len c.args.runs.count 0 c.loop-p.p (2 ^ 46) (at c.args.re.now c.args.im.now) (at c.loop-p.re c.loop-p.im)
    (omega arith) (omega arith) (omega arith) c.loop-p-test.true c.loop-p.invariant
    (λ b q h l.
    let u : (b + 1) * 5 ≤ c.args.runs.count * 5 = omega arith in
    let e : c.args.runs.count * c.args.runs.len ≡ c.args.runs.count * 5 = ap (λ n. c.args.runs.count * n) c.requires.radix in
    let f : b * c.args.runs.len ≡ b * 5 = ap (λ n. b * n) c.requires.radix in
    c.requires.within (c.args.runs.from + 0 + b * c.args.runs.len + q * 1) (omega arith) (omega arith))

pub loop-p-preserved : goal.loop-p-preserved
loop-p-preserved c =
    going_next 5 1 c.args.runs.from 0 c.args.runs.len c.args.runs.count 0 c.loop-p.p (at c.args.re.now c.args.im.now) (at c.loop-p.re c.loop-p.im) (at c.row_5.new.re c.row_5.new.im)
    (omega arith) (omega arith) (omega arith) c.loop-p-test.true c.loop-p.invariant c.row_5.ensures

pub returns : goal.returns
returns c =
    let old = at c.args.re.now c.args.im.now in
    let new = at c.loop-p.re c.loop-p.im in
    let z : 0 ≡ 15360 / c.args.runs.len * 0 = omega arith in
    let one : 1 ≡ c.args.runs.len / 5 = omega arith in
    let s = going_end 5 1 c.args.runs.from 0 c.args.runs.len c.args.runs.count 0 c.loop-p.p old new (omega arith) (omega arith) (omega arith) (omega arith) c.loop-p.invariant in
    let t = part_next 5 1 c.args.runs.from c.args.runs.len c.args.runs.count 0 old old new (omega arith) (omega arith) (part_start 5 1 c.args.runs.from c.args.runs.len c.args.runs.count old)
    (subst (λ a. IsColumnJoined 5 1 (c.args.runs.from + 0) c.args.runs.len c.args.runs.count a old new) z s) in
    subst (λ m. AreJoined 5 m c.args.runs.from c.args.runs.count old new) one
    (part_end 5 1 c.args.runs.from c.args.runs.len c.args.runs.count 96 old new (omega arith) (omega arith) (omega arith) (omega arith) t)
