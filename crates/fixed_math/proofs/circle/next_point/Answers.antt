use Rattle.std.proofs.Common.{arith}
use Rattle.std.proofs.lemmas.Int.{to_z-of_z}
use Rattle.fixed_math.proofs.AngleLemmas.{turn_steps, step_cosine-is, step_sine-is}
use Rattle.fixed_math.proofs.circle.next_point.Goals as goal

pub overflow_cast-result : goal.overflow_cast-result
overflow_cast-result c =
    let t = turn_steps c.args.p.x c.args.p.y 1152921408146894538 471615836983582 c.requires.x_size c.requires.y_size (omega arith) (omega arith) in
    let a = t.x_fits in
    let b = t.y_fits in
    let d = t.x_wide in
    let e = t.y_wide in
    let f = t.first in
    let g = t.second in
    let h = t.difference in
    let i = t.x_shifted in
    simp to_z-of_z t.x_result

pub overflow_cast-result-2 : goal.overflow_cast-result-2
overflow_cast-result-2 c =
    let t = turn_steps c.args.p.x c.args.p.y 1152921408146894538 471615836983582 c.requires.x_size c.requires.y_size (omega arith) (omega arith) in
    let a = t.x_fits in
    let b = t.y_fits in
    let d = t.x_wide in
    let e = t.y_wide in
    let f = t.third in
    let g = t.fourth in
    let h = t.sum in
    let i = t.y_shifted in
    simp to_z-of_z t.y_result

pub returns : goal.returns
returns c =
    let t = turn_steps c.args.p.x c.args.p.y 1152921408146894538 471615836983582 c.requires.x_size c.requires.y_size (omega arith) (omega arith) in
    let a = t.x_fits in
    let b = t.y_fits in
    let d = t.x_wide in
    let e = t.y_wide in
    let f = t.first in
    let g = t.second in
    let h = t.difference in
    let i = t.x_shifted in
    let j = t.third in
    let k = t.fourth in
    let l = t.sum in
    let m = t.y_shifted in
    let n = t.x_result in
    let o = t.y_result in
    rw (step_cosine-is, step_sine-is) (simp to_z-of_z)
