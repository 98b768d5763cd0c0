use Rattle.std.proofs.Common.{◌+◌, arith}
use Rattle.std.proofs.lemmas.Int.{to_z-of_z}
use Rattle.pulse_vectors.proofs.Counts.{raised-by-sum, stand-negative, stand-other}
use Rattle.pulse_vectors.proofs.Places.{below_rises}
use Rattle.pulse_vectors.proofs.ranks.step_over.Goals as goal

pub overflow_add-here : goal.overflow_add-here
overflow_add-here c =
    let fits = c.ranges.x in
    let size = simp to_z-of_z at c.unsigned_abs.ensures.value in
    omega (arith, c.requires.pulses, c.requires.most)

pub overflow_sub-before : goal.overflow_sub-before
overflow_sub-before c = omega (arith, raised-by-sum _ _ _ _ _ c.at-fewer.ensures c.up.ensures.numbers c.at.ensures)

pub overflow_sub-result : goal.overflow_sub-result
overflow_sub-result c = omega (arith, raised-by-sum _ _ _ _ _ c.at-all.ensures c.up.ensures.numbers c.at-then-x-lt0.ensures)

pub overflow_add-result-then-x-lt0 : goal.overflow_add-result-then-x-lt0
overflow_add-result-then-x-lt0 c =
    let less = raised-by-sum _ _ _ _ _ c.at-fewer.ensures c.up.ensures.numbers c.at.ensures in
    let most = raised-by-sum _ _ _ _ _ c.at-all.ensures c.up.ensures.numbers c.at-then-x-lt0.ensures in
    omega (arith, below_rises c.args.row.now.numbers c.args.behind (c.args.behind + c.unsigned_abs.result) (omega arith))

pub returns-then-x-lt0-clause-before : goal.returns-then-x-lt0-clause-before
returns-then-x-lt0-clause-before c =
    let fits = c.ranges.x in
    let size = simp to_z-of_z at c.unsigned_abs.ensures.value in
    let sign = simp to_z-of_z at c.if-x-lt0.true in
    let less = raised-by-sum _ _ _ _ _ c.at-fewer.ensures c.up.ensures.numbers c.at.ensures in
    let most = raised-by-sum _ _ _ _ _ c.at-all.ensures c.up.ensures.numbers c.at-then-x-lt0.ensures in
    omega (arith, stand-negative c.args.x sign c.args.row.now.numbers c.args.behind (c.args.behind + c.unsigned_abs.result) (omega arith))

pub returns-else-x-lt0-clause-before : goal.returns-else-x-lt0-clause-before
returns-else-x-lt0-clause-before c =
    let fits = c.ranges.x in
    let sign = simp to_z-of_z at c.if-x-lt0.false in
    let less = raised-by-sum _ _ _ _ _ c.at-fewer.ensures c.up.ensures.numbers c.at.ensures in
    omega (arith, stand-other c.args.x sign c.args.row.now.numbers c.args.behind)
