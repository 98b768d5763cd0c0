use Rattle.std.proofs.Common.{arith, ◌^◌, ◌<◌, ◌≤◌}
use Rattle.mdct_fixed.proofs.tests.join.Goals as goal

pub join_runs-requires-clause-items : goal.join_runs-requires-clause-items
join_runs-requires-clause-items c = λ i l h.
    let a = c.are_small.ensures c.if-not-are_small.false i (omega arith) in
    let b = c.are_small-2.ensures c.if-not-are_small-2.false i (omega arith) in
    record { re = omega arith; im = omega arith }
