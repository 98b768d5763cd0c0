use Rattle.std.proofs.Common.{◌≡◌, arith, ap, ◌∙◌}
use Rattle.std.specs.Prelude.{ℤ, pos, ◌+ℤ◌, ◌*ℤ◌, FitsSigned}
use Rattle.std.specs.Int.{w16, w64}
use Rattle.std.proofs.lemmas.Int.{to_z-of_z, fits_signed_from_abs}
use Rattle.rate_change.proofs.DigitLemmas.{next_small, top_small}
use Rattle.rate_change.proofs.digits.digits_of.Goals as goal

pub returns-clause-value : goal.returns-clause-value
returns-clause-value c =
    let a = c.cut-first in
    let b = c.cut-second in
    let q : ℤ = a.result.value in
    let h : ℤ = b.result.value in
    let m : ℤ = b.result.left in
    let l : ℤ = a.result.left in
    let mm = b.ensures.left in
    let ll = a.ensures.left in
    let fw : FitsSigned w64 c.args.w = c.ranges.w in
    let va : pos 4095 *ℤ q +ℤ l ≡ c.args.w = simp to_z-of_z at a.ensures.value in
    let qq = next_small c.args.w q l c.requires va ll in
    let fq : FitsSigned w64 q = fits_signed_from_abs w64 q (omega arith) in
    let vb : pos 4095 *ℤ h +ℤ m ≡ q = simp to_z-of_z at b.ensures.value in
    let hh = top_small q h m qq vb mm in
    let fh : FitsSigned w64 h = fits_signed_from_abs w64 h (omega arith) in
    let fm : FitsSigned w64 m = fits_signed_from_abs w64 m (omega arith) in
    let fl : FitsSigned w64 l = fits_signed_from_abs w64 l (omega arith) in
    let gh : FitsSigned w16 h = fits_signed_from_abs w16 h (omega arith) in
    let gm : FitsSigned w16 m = fits_signed_from_abs w16 m (omega arith) in
    let gl : FitsSigned w16 l = fits_signed_from_abs w16 l (omega arith) in
    simp to_z-of_z (ap (λ z. pos 4095 *ℤ z +ℤ l) vb ∙ va)
