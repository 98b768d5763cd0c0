use Rattle.std.proofs.Common.{◌≡◌, ℕ, ◌^◌, arith}
use Rattle.std.specs.Prelude.{ℤ, FitsSigned}
use Rattle.std.specs.Int.{w16, w64}
use Rattle.std.proofs.lemmas.Int.{to_z-of_z, fits_signed_from_abs}
use Rattle.fixed_math.specs.Items.{item}
use Rattle.fixed_math.proofs.ItemLemmas.{item_within}
use Rattle.rate_change.specs.Digits.{joined}
use Rattle.rate_change.proofs.DigitLemmas.{more_digits}
use Rattle.rate_change.proofs.sums.put_digits.Goals as goal

pub loop-t-preserved : goal.loop-t-preserved
loop-t-preserved c =
    let t : ℕ = c.loop-t.t in
    let w : ℤ = item c.args.weights.now t in
    let s = item_within c.args.weights.now (2 ^ 34) t c.requires in
    let fw : FitsSigned w64 w = fits_signed_from_abs w64 w (omega arith) in
    let r = c.digits_of-digits.result in
    let e = c.digits_of-digits.ensures in
    let fh : FitsSigned w16 r.high = fits_signed_from_abs w16 r.high (omega (arith, e.high)) in
    let fm : FitsSigned w16 r.middle = fits_signed_from_abs w16 r.middle (omega (arith, e.middle)) in
    let fl : FitsSigned w16 r.low = fits_signed_from_abs w16 r.low (omega (arith, e.low)) in
    let v : joined r.high r.middle r.low ≡ w = simp to_z-of_z at e.value in
    simp to_z-of_z (more_digits t c.args.weights.now c.loop-t.high c.loop-t.middle c.loop-t.low r.high r.middle r.low c.loop-t-test.true c.loop-t.invariant v e.high e.middle e.low)
