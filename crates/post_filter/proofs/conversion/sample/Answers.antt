use Rattle.std.proofs.Common.{◌≡◌, rules}
use Rattle.std.specs.Prelude.{FitsSigned}
use Rattle.std.specs.Int.{w16}
use Rattle.std.proofs.lemmas.Int.{to_z-of_z}
use Rattle.post_filter.specs.Samples.{sample_of, IsFactor}
use Rattle.post_filter.proofs.conversion.sample.Goals as goal

pub returns-else-gain-eq0 : goal.returns-else-gain-eq0
returns-else-gain-eq0 c =
    let fy = c.ranges.y in
    let fg = c.ranges.gain in
    let f : FitsSigned w16 c.amplified_sample.result = search rules in
    let p : IsFactor c.args.gain c.factor_of.result = simp to_z-of_z at c.factor_of.ensures in
    let e : c.amplified_sample.result ≡ sample_of c.args.gain c.args.y = simp to_z-of_z at c.amplified_sample.ensures.sample c.args.gain p in
    simp to_z-of_z e
