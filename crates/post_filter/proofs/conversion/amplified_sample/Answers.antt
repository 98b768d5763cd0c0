use Rattle.std.proofs.Common.{◌≡◌, ◌∙◌, ap, rules}
use Rattle.std.specs.Prelude.{pos, FitsSigned, ◌*ℤ◌}
use Rattle.std.specs.Int.{w16, w64}
use Rattle.std.proofs.lemmas.Int.{to_z-of_z}
use Rattle.fixed_math.specs.Rounding.{rounded}
use Rattle.post_filter.specs.Samples.{saturated}
use Rattle.post_filter.proofs.SampleLemmas.{sample-amplified}
use Rattle.post_filter.proofs.conversion.amplified_sample.Goals as goal

pub returns-clause-sample : goal.returns-clause-sample
returns-clause-sample c = λ gain h.
    let fy = c.ranges.y in
    let fp : FitsSigned w64 c.product.result = search rules in
    let fr : FitsSigned w16 c.narrowed.result = search rules in
    let p : c.product.result ≡ rounded (c.args.y *ℤ pos c.args.factor.mantissa) c.args.factor.shift = simp to_z-of_z at c.product.ensures in
    let e : c.narrowed.result ≡ saturated c.product.result = simp to_z-of_z at c.narrowed.ensures in
    simp to_z-of_z (e ∙ ap saturated p ∙ sample-amplified gain c.args.y c.args.factor.mantissa c.args.factor.shift h.times h.places)
