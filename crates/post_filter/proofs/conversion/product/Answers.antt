use Rattle.std.proofs.lemmas.Int.{to_z-of_z}
use Rattle.post_filter.proofs.SampleLemmas.{wide_steps}
use Rattle.post_filter.proofs.conversion.product.Goals as goal

pub overflow_add-result : goal.overflow_add-result
overflow_add-result c =
    let fy = c.ranges.y in
    let t = wide_steps c.args.y c.args.factor.mantissa c.args.factor.shift c.requires c.args.factor.most_mantissa c.args.factor.least_shift c.args.factor.most_shift in
    let a = t.narrow in
    let m = t.factor in
    let b = t.product in
    let h = t.half in
    simp (to_z-of_z, h, m) t.sum

pub overflow_cast-result-4 : goal.overflow_cast-result-4
overflow_cast-result-4 c =
    let fy = c.ranges.y in
    let t = wide_steps c.args.y c.args.factor.mantissa c.args.factor.shift c.requires c.args.factor.most_mantissa c.args.factor.least_shift c.args.factor.most_shift in
    let a = t.narrow in
    let m = t.factor in
    let b = t.product in
    let h = t.half in
    let s = t.sum in
    let u = t.shifted in
    simp (to_z-of_z, h, m) t.result

pub returns : goal.returns
returns c =
    let fy = c.ranges.y in
    let t = wide_steps c.args.y c.args.factor.mantissa c.args.factor.shift c.requires c.args.factor.most_mantissa c.args.factor.least_shift c.args.factor.most_shift in
    let a = t.narrow in
    let m = t.factor in
    let b = t.product in
    let h = t.half in
    let s = t.sum in
    let u = t.shifted in
    let v = t.result in
    simp (to_z-of_z, h, m)
