use Rattle.std.proofs.lemmas.Int.{to_z-of_z}
use Rattle.mdct_fixed.proofs.NumberLemmas.{product_steps, product_size}
use Rattle.mdct_fixed.proofs.complex.products.Goals as goal

pub overflow_add-result : goal.overflow_add-result
overflow_add-result c =
    let t = product_steps c.args.z c.args.w c.requires.within c.requires.small in
    let a = t.re in
    let b = t.im in
    let d = t.cosine in
    let e = t.sine in
    let f = t.first_fits in
    let g = t.second_fits in
    simp to_z-of_z t.sum

pub overflow_mul-result-3 : goal.overflow_mul-result-3
overflow_mul-result-3 c =
    let t = product_steps c.args.z c.args.w c.requires.within c.requires.small in
    let a = t.im in
    let b = t.cosine in
    simp to_z-of_z t.third_fits

pub overflow_mul-result-4 : goal.overflow_mul-result-4
overflow_mul-result-4 c =
    let t = product_steps c.args.z c.args.w c.requires.within c.requires.small in
    let a = t.re in
    let b = t.sine in
    simp to_z-of_z t.fourth_fits

pub overflow_sub-result : goal.overflow_sub-result
overflow_sub-result c =
    let t = product_steps c.args.z c.args.w c.requires.within c.requires.small in
    let a = t.re in
    let b = t.im in
    let d = t.cosine in
    let e = t.sine in
    let f = t.third_fits in
    let g = t.fourth_fits in
    simp to_z-of_z t.difference

pub returns-clause-value : goal.returns-clause-value
returns-clause-value c =
    let t = product_steps c.args.z c.args.w c.requires.within c.requires.small in
    let a = t.re in
    let b = t.im in
    let d = t.cosine in
    let e = t.sine in
    let f = t.first_fits in
    let g = t.second_fits in
    let h = t.third_fits in
    let i = t.fourth_fits in
    let j = t.sum in
    let k = t.difference in
    simp to_z-of_z

pub returns-clause-size : goal.returns-clause-size
returns-clause-size c =
    let t = product_steps c.args.z c.args.w c.requires.within c.requires.small in
    let a = t.re in
    let b = t.im in
    let d = t.cosine in
    let e = t.sine in
    let f = t.first_fits in
    let g = t.second_fits in
    let h = t.third_fits in
    let i = t.fourth_fits in
    let j = t.sum in
    let k = t.difference in
    simp to_z-of_z (product_size c.args.z c.args.w c.requires.within c.requires.small)
