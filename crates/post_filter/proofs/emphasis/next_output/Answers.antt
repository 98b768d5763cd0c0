use Rattle.std.proofs.Common.{◌≡◌, ap, arith, rules, subst, sym}
use Rattle.std.specs.Prelude.{pos, ◌+ℤ◌, ◌*ℤ◌, FitsSigned}
use Rattle.std.specs.Int.{w64}
use Rattle.std.proofs.lemmas.Int.{to_z-of_z, fits_signed_from_abs}
use Rattle.fixed_math.specs.Rounding.{rounded}
use Rattle.post_filter.specs.Deemphasis.{remainder}
use Rattle.post_filter.proofs.DeemphasisLemmas.{output_size}
use Rattle.post_filter.proofs.emphasis.next_output.Goals as goal

pub returns-clause-value : goal.returns-clause-value
unfolding remainder
returns-clause-value c =
    let x = c.args.x in
    let y = c.args.y in
    let r = c.mulr.result in
    let fx = c.ranges.x in
    let fy = c.ranges.y in
    let fr : FitsSigned w64 r = search rules in
    let e : r ≡ rounded (pos 27853 *ℤ y) 15 = simp to_z-of_z at c.mulr.ensures.value in
    let b : FitsSigned w64 (x +ℤ remainder y) = fits_signed_from_abs w64 (x +ℤ remainder y) (omega (arith, output_size x y c.requires.item c.requires.before)) in
    let s : FitsSigned w64 (x +ℤ r) = subst (λ z. FitsSigned w64 (x +ℤ z)) (sym e) b in
    simp to_z-of_z (ap (λ z. x +ℤ z) e)
