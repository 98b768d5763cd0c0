use Rattle.std.proofs.lemmas.Int.{to_z-of_z}
use Rattle.mdct_fixed.proofs.NumberLemmas.{sum_steps}
use Rattle.mdct_fixed.proofs.rows.add_two.Goals as goal

pub returns : goal.returns
returns c =
    let t = sum_steps c.args.a.re c.args.b.re c.args.c.re c.requires.a_size.re c.requires.b_size.re c.requires.c_size.re in
    let u = sum_steps c.args.a.im c.args.b.im c.args.c.im c.requires.a_size.im c.requires.b_size.im c.requires.c_size.im in
    let a = t.first in
    let b = t.second in
    let d = t.third in
    let e = t.two in
    let f = t.three in
    let g = u.first in
    let h = u.second in
    let i = u.third in
    let j = u.two in
    let k = u.three in
    simp to_z-of_z
