use Rattle.std.proofs.Common.{◌-◌, ◌^◌, arith}
use Rattle.range_coder.proofs.LaplaceWalk.{Further, further}
use Rattle.range_coder.proofs.places.sides_up_to.Goals as goal

pub loop-from-preserved : goal.loop-from-preserved
loop-from-preserved c =
    let l = c.loop-from in
    let inside = l.invariant.2 in
    let test = c.if-from-spread-lt32768.true in
    let size = c.loop-from-test.true in
    let same = c.from.ensures in
    let is : Further c.args.fs c.args.decay (2 ^ 15 - 1) l.smaller l.from l.spread =
    record { begins = l.invariant.0; length = l.invariant.1; above = omega arith; small = l.invariant.3; many = l.invariant.4 } in
    let next = further c.args.fs c.args.decay (2 ^ 15 - 1) l.smaller l.from l.spread is c.requires.valid.2 (omega arith) (omega arith) in
    (next.begins, next.length, test, next.small, next.many, omega arith)
