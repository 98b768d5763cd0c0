use Rattle.std.proofs.Common.{◌≤◌, arith, rules, subst, sym}
use Rattle.std.specs.Prelude.{FitsSigned, unsigned_abs}
use Rattle.std.specs.Int.{w64}
use Rattle.std.proofs.lemmas.Int.{to_z-of_z, fits_signed_from_abs}
use Rattle.post_filter.specs.Samples.{exponent}
use Rattle.post_filter.proofs.SampleLemmas.{exponent_size}
use Rattle.post_filter.proofs.conversion.exponent_of.Goals as goal

pub returns-clause-value : goal.returns-clause-value
unfolding exponent
returns-clause-value c =
    let fg = c.ranges.gain in
    let fw : FitsSigned w64 c.args.gain = fits_signed_from_abs w64 c.args.gain (omega (arith, c.requires)) in
    let fr : FitsSigned w64 c.mulr.result = search rules in
    let e = simp to_z-of_z at c.mulr.ensures.value in
    simp to_z-of_z e

pub returns-clause-size : goal.returns-clause-size
returns-clause-size c = subst (λ z. unsigned_abs z ≤ 21771) (sym (returns-clause-value c)) (exponent_size c.args.gain c.requires)
