use Rattle.std.proofs.Common.{◌≡◌, ℕ, arith, to_z}
use Rattle.std.specs.Prelude.{pos}
use Rattle.std.specs.Int.{w64}
use Rattle.std.proofs.lemmas.Int.{to_z-of_z, to_z_pos}
use Rattle.mdct_fixed.proofs.MdctLemmas.{size_facts}
use Rattle.mdct_fixed.proofs.ForwardLemmas.{scale_steps, sum_scaled, difference_scaled}
use Rattle.mdct_fixed.proofs.forward_transform.scale.Goals as goal

pub fifteenth-requires : goal.fifteenth-requires
fifteenth-requires c =
    let f = size_facts c.args.n c.requires.size in
    let low = f.low in
    let high = f.high in
    let k : ℕ = c.shift_of-shift.result in
    let s = scale_steps c.args.v.re c.args.n k c.requires.within.re high c.shift_of-shift.ensures.value low in
    let t = scale_steps c.args.v.im c.args.n k c.requires.within.im high c.shift_of-shift.ensures.value low in
    let n1 = s.number in
    let n2 = s.times in
    let n3 = s.sum in
    let n4 = s.sum_shifted in
    let m1 = t.number in
    let m2 = t.times in
    let m3 = t.difference in
    let m4 = t.difference_shifted in
    let z : to_z w64 c.args.n ≡ pos c.args.n = to_z_pos w64 c.args.n (omega arith) in
    simp (to_z-of_z, z) (record { re = s.sum_small; im = t.difference_small })

pub returns-clause-re : goal.returns-clause-re
returns-clause-re c =
    let f = size_facts c.args.n c.requires.size in
    let low = f.low in
    let high = f.high in
    let k : ℕ = c.shift_of-shift.result in
    let s = scale_steps c.args.v.re c.args.n k c.requires.within.re high c.shift_of-shift.ensures.value low in
    let t = scale_steps c.args.v.im c.args.n k c.requires.within.im high c.shift_of-shift.ensures.value low in
    let n1 = s.number in
    let n2 = s.times in
    let n3 = s.sum in
    let n4 = s.sum_shifted in
    let m1 = t.number in
    let m2 = t.times in
    let m3 = t.difference in
    let m4 = t.difference_shifted in
    let z : to_z w64 c.args.n ≡ pos c.args.n = to_z_pos w64 c.args.n (omega arith) in
    let e = simp (to_z-of_z, z) at c.fifteenth.ensures.re in
    sum_scaled c.args.v.re c.fifteenth.result.re c.args.n k c.shift_of-shift.ensures.value e

pub returns-clause-im : goal.returns-clause-im
returns-clause-im c =
    let f = size_facts c.args.n c.requires.size in
    let low = f.low in
    let high = f.high in
    let k : ℕ = c.shift_of-shift.result in
    let s = scale_steps c.args.v.re c.args.n k c.requires.within.re high c.shift_of-shift.ensures.value low in
    let t = scale_steps c.args.v.im c.args.n k c.requires.within.im high c.shift_of-shift.ensures.value low in
    let n1 = s.number in
    let n2 = s.times in
    let n3 = s.sum in
    let n4 = s.sum_shifted in
    let m1 = t.number in
    let m2 = t.times in
    let m3 = t.difference in
    let m4 = t.difference_shifted in
    let z : to_z w64 c.args.n ≡ pos c.args.n = to_z_pos w64 c.args.n (omega arith) in
    let e = simp (to_z-of_z, z) at c.fifteenth.ensures.im in
    difference_scaled c.args.v.im c.fifteenth.result.im c.args.n k c.shift_of-shift.ensures.value e
