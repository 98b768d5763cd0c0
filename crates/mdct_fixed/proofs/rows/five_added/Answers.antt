use Rattle.std.proofs.Common.{arith, rules}
use Rattle.std.specs.Prelude.{FitsSigned}
use Rattle.std.specs.Int.{w64}
use Rattle.std.proofs.lemmas.Int.{to_z-of_z, fits_signed_from_abs}
use Rattle.mdct_fixed.proofs.NumberLemmas.{pair_is}
use Rattle.mdct_fixed.proofs.rows.five_added.Goals as goal

pub returns : goal.returns
returns c =
    let h = c.requires in
    let h_first_re = h.first.re in
    let f_first_re : FitsSigned w64 c.args.y.first.re = fits_signed_from_abs w64 c.args.y.first.re (omega arith) in
    let h_second_re = h.second.re in
    let f_second_re : FitsSigned w64 c.args.y.second.re = fits_signed_from_abs w64 c.args.y.second.re (omega arith) in
    let h_third_re = h.third.re in
    let f_third_re : FitsSigned w64 c.args.y.third.re = fits_signed_from_abs w64 c.args.y.third.re (omega arith) in
    let h_fourth_re = h.fourth.re in
    let f_fourth_re : FitsSigned w64 c.args.y.fourth.re = fits_signed_from_abs w64 c.args.y.fourth.re (omega arith) in
    let h_fifth_re = h.fifth.re in
    let f_fifth_re : FitsSigned w64 c.args.y.fifth.re = fits_signed_from_abs w64 c.args.y.fifth.re (omega arith) in
    let h_first_im = h.first.im in
    let f_first_im : FitsSigned w64 c.args.y.first.im = fits_signed_from_abs w64 c.args.y.first.im (omega arith) in
    let h_second_im = h.second.im in
    let f_second_im : FitsSigned w64 c.args.y.second.im = fits_signed_from_abs w64 c.args.y.second.im (omega arith) in
    let h_third_im = h.third.im in
    let f_third_im : FitsSigned w64 c.args.y.third.im = fits_signed_from_abs w64 c.args.y.third.im (omega arith) in
    let h_fourth_im = h.fourth.im in
    let f_fourth_im : FitsSigned w64 c.args.y.fourth.im = fits_signed_from_abs w64 c.args.y.fourth.im (omega arith) in
    let h_fifth_im = h.fifth.im in
    let f_fifth_im : FitsSigned w64 c.args.y.fifth.im = fits_signed_from_abs w64 c.args.y.fifth.im (omega arith) in
    let r : FitsSigned w64 c.added.result = search rules in
    let s : FitsSigned w64 c.added-2.result = search rules in
    let d = simp to_z-of_z at c.added.ensures in
    let e = simp to_z-of_z at c.added-2.ensures in
    simp to_z-of_z (pair_is _ _ _ _ d e)
