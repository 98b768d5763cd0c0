use Rattle.std.proofs.Common.{◌≡◌, arith, rules}
use Rattle.std.specs.Prelude.{ℤ, pos, ◌+ℤ◌, FitsSigned}
use Rattle.std.specs.Int.{w64, int_div_euclid}
use Rattle.std.proofs.lemmas.Int.{ints, to_z-of_z, fits_signed_from_abs}
use Rattle.rate_change.proofs.DigitLemmas.{cut_steps}
use Rattle.rate_change.proofs.digits.cut.Goals as goal

pub returns-clause-value : goal.returns-clause-value
returns-clause-value c =
    let q : ℤ = c.div_euclid-value.result in
    let fw : FitsSigned w64 c.args.w = c.ranges.w in
    let h = c.requires in
    let fm : FitsSigned w64 (c.args.w +ℤ pos 2047) = fits_signed_from_abs w64 (c.args.w +ℤ pos 2047) (omega (arith, ints)) in
    let fq : FitsSigned w64 q = search rules in
    let e : q ≡ int_div_euclid (c.args.w +ℤ pos 2047) (pos 4095) = simp to_z-of_z at c.div_euclid-value.ensures in
    let s = cut_steps c.args.w q c.requires e in
    let a = s.product in
    let b = s.left in
    simp to_z-of_z s.whole

pub returns-clause-left : goal.returns-clause-left
returns-clause-left c =
    let q : ℤ = c.div_euclid-value.result in
    let fw : FitsSigned w64 c.args.w = c.ranges.w in
    let h = c.requires in
    let fm : FitsSigned w64 (c.args.w +ℤ pos 2047) = fits_signed_from_abs w64 (c.args.w +ℤ pos 2047) (omega (arith, ints)) in
    let fq : FitsSigned w64 q = search rules in
    let e : q ≡ int_div_euclid (c.args.w +ℤ pos 2047) (pos 4095) = simp to_z-of_z at c.div_euclid-value.ensures in
    let s = cut_steps c.args.w q c.requires e in
    let a = s.product in
    let b = s.left in
    simp to_z-of_z s.size
