use Rattle.std.proofs.Common.{◌≡◌, ◌∙◌, ap, rules}
use Rattle.std.specs.Prelude.{FitsSigned}
use Rattle.std.specs.Int.{w64}
use Rattle.std.proofs.lemmas.Int.{to_z-of_z}
use Rattle.rate_change.specs.Resampling.{nearest, saturated}
use Rattle.rate_change.proofs.NearestLemmas.{nearest_steps, sixteen}
use Rattle.rate_change.proofs.sums.nearest_sample.Goals as goal

pub returns : goal.returns
returns c =
    let fs = c.ranges.sum in
    let fd = c.ranges.divisor in
    let t = nearest_steps c.args.sum c.args.divisor c.requires.sum c.requires.some c.requires.most in
    let a = t.twice in
    let b = t.sum in
    let d = t.divisor in
    let q = t.quotient in
    let fq : FitsSigned w64 c.div_euclid.result = search rules in
    let fc : FitsSigned w64 c.clamp.result = search rules in
    let f = sixteen c.clamp.result c.clamp.ensures.lower_bound c.clamp.ensures.upper_bound in
    let e : c.div_euclid.result ≡ nearest c.args.sum c.args.divisor = simp to_z-of_z at c.div_euclid.ensures in
    let s : c.clamp.result ≡ saturated c.div_euclid.result = simp to_z-of_z at c.clamp.ensures.value in
    simp to_z-of_z (s ∙ ap saturated e)
