use Rattle.std.proofs.Common.{◌∙◌, ap₂, arith, rules, add-one}
use Rattle.std.specs.Prelude.{ℤ, FitsSigned}
use Rattle.std.specs.Int.{w16}
use Rattle.std.proofs.lemmas.Int.{to_z-of_z}
use Rattle.celt_cli.proofs.GivenPairs.{next_noise, left_is, right_is}
use Rattle.celt_cli.proofs.generator.GenSamples.next.Goals as goal

pub returns-clause-pair : goal.returns-clause-pair
returns-clause-pair c = λ seed count h.
    let fl : FitsSigned w16 c.sample-left.result = search rules in
    let fr : FitsSigned w16 c.sample-right.result = search rules in
    let left = left_is seed count c.args.self.now.noise c.args.self.now.left c.noise-first.result c.sample-left.result h.noise h.left c.noise-first.ensures c.sample-left.ensures in
    let second = next_noise seed count c.args.self.now.noise c.noise-first.result c.noise-second.result h.noise c.noise-first.ensures c.noise-second.ensures in
    let right = right_is seed count c.args.self.now.right c.noise-second.result c.sample-right.result second h.right c.sample-right.ensures in
    ap₂ (λ (l r : ℤ). (l, r)) (to_z-of_z w16 c.sample-left.result fl ∙ left) (to_z-of_z w16 c.sample-right.result fr ∙ right)

pub returns-clause-given : goal.returns-clause-given
returns-clause-given c = λ seed count h.
    let second = next_noise seed count c.args.self.now.noise c.noise-first.result c.noise-second.result h.noise c.noise-first.ensures c.noise-second.ensures in
    let left = h.left in
    let right = h.right in
    record {
      noise = rw add-one second;
      left = omega arith;
      right = omega arith;
    }
