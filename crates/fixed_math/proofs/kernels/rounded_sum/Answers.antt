use Rattle.std.proofs.lemmas.Int.{to_z-of_z}
use Rattle.fixed_math.proofs.RoundingLemmas.{sum_steps, turn_within}
use Rattle.fixed_math.proofs.kernels.rounded_sum.Goals as goal

pub overflow_add-result : goal.overflow_add-result
overflow_add-result c =
    let x2 = c.ranges.x in
    let c2 = c.ranges.c in
    let y2 = c.ranges.y in
    let s2 = c.ranges.s in
    let t = sum_steps c.args.x c.args.c c.args.y c.args.s c.requires.first c.requires.second in
    let p = t.first in
    let q = t.second in
    simp to_z-of_z t.sum

pub overflow_add-result-2 : goal.overflow_add-result-2
overflow_add-result-2 c =
    let x2 = c.ranges.x in
    let c2 = c.ranges.c in
    let y2 = c.ranges.y in
    let s2 = c.ranges.s in
    let t = sum_steps c.args.x c.args.c c.args.y c.args.s c.requires.first c.requires.second in
    let p = t.first in
    let q = t.second in
    let u = t.sum in
    simp to_z-of_z t.half

pub returns-clause-value : goal.returns-clause-value
returns-clause-value c =
    let x2 = c.ranges.x in
    let c2 = c.ranges.c in
    let y2 = c.ranges.y in
    let s2 = c.ranges.s in
    let t = sum_steps c.args.x c.args.c c.args.y c.args.s c.requires.first c.requires.second in
    let p = t.first in
    let q = t.second in
    let u = t.sum in
    let v = t.half in
    let w = t.shifted in
    simp to_z-of_z

pub returns-clause-growth : goal.returns-clause-growth
returns-clause-growth c = λ m d e f g.
    let x2 = c.ranges.x in
    let c2 = c.ranges.c in
    let y2 = c.ranges.y in
    let s2 = c.ranges.s in
    let t = sum_steps c.args.x c.args.c c.args.y c.args.s c.requires.first c.requires.second in
    let p = t.first in
    let q = t.second in
    let u = t.sum in
    let v = t.half in
    let w = t.shifted in
    simp to_z-of_z (turn_within c.args.x c.args.c c.args.y c.args.s m d e f g)
