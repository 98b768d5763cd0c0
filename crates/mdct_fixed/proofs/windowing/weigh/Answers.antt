use Rattle.std.proofs.Common.{◌≡◌, subst, rules}
use Rattle.std.specs.Prelude.{FitsSigned, ◌*ℤ◌}
use Rattle.std.specs.Int.{w64}
use Rattle.std.proofs.lemmas.Int.{to_z-of_z}
use Rattle.fixed_math.specs.Rounding.{rounded}
use Rattle.mdct_fixed.proofs.MdctLemmas.{product_size, weighted_within}
use Rattle.mdct_fixed.proofs.windowing.weigh.Goals as goal

pub mulr-requires-clause-product : goal.mulr-requires-clause-product
mulr-requires-clause-product c =
    let fv = c.ranges.v in
    let fe : FitsSigned w64 c.entry.result = search rules in
    simp to_z-of_z (product_size c.args.v c.entry.result c.args.k c.requires.place c.entry.ensures c.requires.size)

pub returns-clause-value : goal.returns-clause-value
returns-clause-value c =
    let fv = c.ranges.v in
    let fe : FitsSigned w64 c.entry.result = search rules in
    let fr : FitsSigned w64 c.mulr.result = search rules in
    let e = simp to_z-of_z at c.mulr.ensures.value in
    simp to_z-of_z (subst (λ n. c.mulr.result ≡ rounded (c.args.v *ℤ n) 15) c.entry.ensures e)

pub returns-clause-within : goal.returns-clause-within
returns-clause-within c = λ n h.
    let fv = c.ranges.v in
    let fe : FitsSigned w64 c.entry.result = search rules in
    let fr : FitsSigned w64 c.mulr.result = search rules in
    let e = simp to_z-of_z at c.mulr.ensures.value in
    simp to_z-of_z (weighted_within c.args.v c.entry.result c.args.k n c.mulr.result c.requires.place c.entry.ensures e h)
