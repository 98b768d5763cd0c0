use Rattle.std.proofs.Common.{arith, length}
use Rattle.celt_encode.proofs.ChangeSteps.{joining_none, joining_more, joining_small, stride_small, count_small}
use Rattle.celt_encode.proofs.changes.join.Goals as goal

pub loop-i-init : goal.loop-i-init
loop-i-init c = joining_none c.args.x.now c.args.g.count c.args.g.stride c.requires.some c.requires.runs c.requires.items

pub halve-now-requires-clause-items : goal.halve-now-requires-clause-items
halve-now-requires-clause-items c = joining_small c.loop-i.x c.loop-i.i (omega arith) c.loop-i.invariant.within

pub loop-i-preserved : goal.loop-i-preserved
loop-i-preserved c =
    joining_more c.args.x.now c.loop-i.x c.halve-now.new.x c.args.g.count c.args.g.stride c.loop-i.now.count c.loop-i.now.stride
    c.halve-now.result.count c.halve-now.result.stride c.loop-i.i
    c.loop-i.invariant c.halve-now.ensures.value c.halve-now.ensures.len c.halve-now.ensures.some c.halve-now.ensures.runs c.halve-now.ensures.growth

pub returns-clause-small : goal.returns-clause-small
returns-clause-small c = joining_small c.loop-i.x c.loop-i.i (omega arith) c.loop-i.invariant.within

pub returns-clause-wide : goal.returns-clause-wide
returns-clause-wide c =
    let j = c.loop-i.invariant in
    stride_small c.loop-i.now.count c.loop-i.now.stride (length c.loop-i.x) (let e = j.len in let f = c.requires.full in omega (arith, e, f)) (let e = j.len in let f = c.requires.most in omega (arith, e, f)) j.runs

pub returns-clause-few : goal.returns-clause-few
returns-clause-few c =
    let j = c.loop-i.invariant in
    count_small c.loop-i.now.count c.loop-i.now.stride (length c.loop-i.x) j.some (let e = j.len in let f = c.requires.most in omega (arith, e, f)) j.runs
