use Rattle.std.proofs.lemmas.Int.{to_z-of_z}
use Rattle.fixed_math.proofs.RoundingLemmas.{product_steps, product_rounded}
use Rattle.fixed_math.proofs.kernels.mulr.Goals as goal

pub overflow_add-result : goal.overflow_add-result
overflow_add-result c =
    let a2 = c.ranges.a in
    let b2 = c.ranges.b in
    let t = product_steps c.args.a c.args.b c.args.s c.requires.shift.0 c.requires.shift.1 c.requires.product in
    let p = t.product in
    let h = t.half in
    simp (to_z-of_z, h) t.sum

pub returns-clause-value : goal.returns-clause-value
returns-clause-value c =
    let a2 = c.ranges.a in
    let b2 = c.ranges.b in
    let t = product_steps c.args.a c.args.b c.args.s c.requires.shift.0 c.requires.shift.1 c.requires.product in
    let p = t.product in
    let h = t.half in
    let u = t.sum in
    let v = t.shifted in
    simp (to_z-of_z, h)

pub returns-clause-size : goal.returns-clause-size
returns-clause-size c = λ m n k d e f.
    let a2 = c.ranges.a in
    let b2 = c.ranges.b in
    let t = product_steps c.args.a c.args.b c.args.s c.requires.shift.0 c.requires.shift.1 c.requires.product in
    let p = t.product in
    let h = t.half in
    let u = t.sum in
    let v = t.shifted in
    simp (to_z-of_z, h) (product_rounded c.args.a c.args.b c.args.s m n k c.requires.shift.0 d e f)
