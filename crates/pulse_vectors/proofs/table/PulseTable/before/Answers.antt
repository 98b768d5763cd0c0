use Rattle.std.proofs.Common.{arith, ◌+◌, add-one}
use Rattle.std.proofs.lemmas.Int.{to_z-of_z}
use Rattle.pulse_vectors.proofs.Counts.{stand-negative, stand-other}
use Rattle.pulse_vectors.proofs.Places.{below-suc}
use Rattle.pulse_vectors.proofs.TableSteps.{place-inside, sum-fits}
use Rattle.pulse_vectors.proofs.table.PulseTable.before.Goals as goal

pub overflow_add-behind : goal.overflow_add-behind
overflow_add-behind c =
    let fits = c.ranges.x in
    let size = simp to_z-of_z at c.unsigned_abs.ensures.value in
    omega (arith, place-inside _ _ c.requires)

pub overflow_add-result : goal.overflow_add-result
overflow_add-result c =
    let fits = c.ranges.x in
    let size = simp to_z-of_z at c.unsigned_abs.ensures.value in
    omega (arith, sum-fits _ _ (c.args.behind + c.unsigned_abs.result) _ _ _ (omega arith) c.requires c.sum.ensures c.sum_below-fewer.ensures (omega arith))

pub returns-then-x-lt0 : goal.returns-then-x-lt0
returns-then-x-lt0 c =
    let fits = c.ranges.x in
    let size = simp to_z-of_z at c.unsigned_abs.ensures.value in
    let sign = simp to_z-of_z at c.if-x-lt0.true in
    let sum = rw add-one at c.sum.ensures in
    omega (arith, stand-negative c.args.x sign c.args.numbers c.args.behind (c.args.behind + c.unsigned_abs.result) (omega arith), below-suc c.args.numbers (c.args.behind + c.unsigned_abs.result))

pub returns-else-x-lt0 : goal.returns-else-x-lt0
returns-else-x-lt0 c =
    let fits = c.ranges.x in
    let sign = simp to_z-of_z at c.if-x-lt0.false in
    omega (arith, stand-other c.args.x sign c.args.numbers c.args.behind)
