use Rattle.range_coder.proofs.LaplaceWalk.{Further, further}
use Rattle.range_coder.proofs.answers.sides_at.Goals as goal

pub loop-from-preserved : goal.loop-from-preserved
loop-from-preserved c =
    let l = c.loop-from in
    let is : Further c.args.fs c.args.decay c.args.value l.smaller l.from l.spread =
    record { begins = l.invariant.0; length = l.invariant.1; above = l.invariant.2; small = l.invariant.3; many = l.invariant.4 } in
    let next = further c.args.fs c.args.decay c.args.value l.smaller l.from l.spread is c.requires.valid.2 c.requires.below c.loop-from-test.true in
    (next.begins, next.length, next.above, next.small, next.many)
