use Rattle.std.proofs.Common.{rules}
use Rattle.std.specs.Prelude.{FitsSigned}
use Rattle.std.specs.Int.{w64}
use Rattle.std.proofs.lemmas.Int.{to_z-of_z}
use Rattle.rate_change.proofs.SumLemmas.{join_steps, product_from}
use Rattle.rate_change.proofs.sums.product.Goals as goal

pub returns-clause-value : goal.returns-clause-value
returns-clause-value c = λ up f r.
    let h = c.digit_sum-high in
    let m = c.digit_sum-middle in
    let l = c.digit_sum-low in
    let fh : FitsSigned w64 h.result = search rules in
    let fm : FitsSigned w64 m.result = search rules in
    let fl : FitsSigned w64 l.result = search rules in
    let s = join_steps h.result m.result l.result h.ensures.size m.ensures.size l.ensures.size in
    let a = s.first in
    let b = s.second in
    let d = s.third in
    let e = s.fourth in
    simp to_z-of_z (product_from up f c.args.row.now c.args.window.now h.result m.result l.result r h.ensures.value m.ensures.value l.ensures.value)

pub returns-clause-size : goal.returns-clause-size
returns-clause-size c =
    let h = c.digit_sum-high in
    let m = c.digit_sum-middle in
    let l = c.digit_sum-low in
    let fh : FitsSigned w64 h.result = search rules in
    let fm : FitsSigned w64 m.result = search rules in
    let fl : FitsSigned w64 l.result = search rules in
    let s = join_steps h.result m.result l.result h.ensures.size m.ensures.size l.ensures.size in
    let a = s.first in
    let b = s.second in
    let d = s.third in
    let e = s.fourth in
    simp to_z-of_z s.size
