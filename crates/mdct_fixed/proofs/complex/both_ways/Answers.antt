use Rattle.std.proofs.lemmas.Int.{to_z-of_z}
use Rattle.mdct_fixed.proofs.NumberLemmas.{product_steps, both_steps}
use Rattle.mdct_fixed.proofs.complex.both_ways.Goals as goal

pub overflow_add-result : goal.overflow_add-result
overflow_add-result c =
    let t = product_steps c.args.z c.args.w c.requires.within c.requires.small in
    let u = both_steps c.args.z c.args.w c.requires.within c.requires.small in
    let a = t.re in
    let b = t.im in
    let d = t.cosine in
    let e = t.sine in
    let f = t.first_fits in
    let g = t.second_fits in
    let h = u.along in
    simp to_z-of_z u.sum

pub overflow_sub-result : goal.overflow_sub-result
overflow_sub-result c =
    let t = product_steps c.args.z c.args.w c.requires.within c.requires.small in
    let u = both_steps c.args.z c.args.w c.requires.within c.requires.small in
    let a = t.re in
    let b = t.im in
    let d = t.cosine in
    let e = t.sine in
    let f = t.first_fits in
    let g = t.second_fits in
    let h = u.along in
    simp to_z-of_z u.difference

pub returns-clause-ahead : goal.returns-clause-ahead
returns-clause-ahead c =
    let t = product_steps c.args.z c.args.w c.requires.within c.requires.small in
    let u = both_steps c.args.z c.args.w c.requires.within c.requires.small in
    let a = t.re in
    let b = t.im in
    let d = t.cosine in
    let e = t.sine in
    let f = t.first_fits in
    let g = t.second_fits in
    let h = u.along in
    let i = u.sum in
    let j = u.ahead in
    simp to_z-of_z u.ahead_is

pub returns-clause-behind : goal.returns-clause-behind
returns-clause-behind c =
    let t = product_steps c.args.z c.args.w c.requires.within c.requires.small in
    let u = both_steps c.args.z c.args.w c.requires.within c.requires.small in
    let a = t.re in
    let b = t.im in
    let d = t.cosine in
    let e = t.sine in
    let f = t.first_fits in
    let g = t.second_fits in
    let h = u.along in
    let i = u.difference in
    let j = u.behind in
    simp to_z-of_z u.behind_is

pub returns-clause-ahead_size : goal.returns-clause-ahead_size
returns-clause-ahead_size c =
    let t = product_steps c.args.z c.args.w c.requires.within c.requires.small in
    let u = both_steps c.args.z c.args.w c.requires.within c.requires.small in
    let a = t.re in
    let b = t.im in
    let d = t.cosine in
    let e = t.sine in
    let f = t.first_fits in
    let g = t.second_fits in
    let h = u.along in
    let i = u.sum in
    let j = u.ahead in
    simp to_z-of_z u.ahead_size

pub returns-clause-behind_size : goal.returns-clause-behind_size
returns-clause-behind_size c =
    let t = product_steps c.args.z c.args.w c.requires.within c.requires.small in
    let u = both_steps c.args.z c.args.w c.requires.within c.requires.small in
    let a = t.re in
    let b = t.im in
    let d = t.cosine in
    let e = t.sine in
    let f = t.first_fits in
    let g = t.second_fits in
    let h = u.along in
    let i = u.difference in
    let j = u.behind in
    simp to_z-of_z u.behind_size
