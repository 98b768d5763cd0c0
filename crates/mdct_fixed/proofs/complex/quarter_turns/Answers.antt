use Rattle.std.proofs.Common.{◌∙◌, ap, rules}
use Rattle.std.specs.Prelude.{neg_ℤ, FitsSigned}
use Rattle.std.specs.Int.{w64}
use Rattle.std.proofs.lemmas.Int.{to_z-of_z}
use Rattle.fixed_math.specs.Rounding.{rounded}
use Rattle.mdct_fixed.proofs.NumberLemmas.{one_quarter, two_quarters, three_quarters}
use Rattle.mdct_fixed.proofs.complex.quarter_turns.Goals as goal

pub returns-clause-one : goal.returns-clause-one
returns-clause-one c =
    let a : FitsSigned w64 c.nearest-up.result.im = search rules in
    let b : FitsSigned w64 c.nearest_negated-down.result.re = search rules in
    let e = c.products-p.ensures.value in
    simp to_z-of_z
    (one_quarter c.args.z c.args.w.cosine c.args.w.sine c.nearest-up.result.im c.nearest_negated-down.result.re
    (c.nearest-up.ensures.im ∙ ap (λ p. rounded p.im 15) e) (c.nearest_negated-down.ensures.re ∙ ap (λ p. rounded (neg_ℤ p.re) 15) e))

pub returns-clause-two : goal.returns-clause-two
returns-clause-two c =
    let e = c.products-p.ensures.value in
    two_quarters c.args.z c.nearest_negated-down.result c.args.w.cosine c.args.w.sine
    (c.nearest_negated-down.ensures.re ∙ ap (λ p. rounded (neg_ℤ p.re) 15) e) (c.nearest_negated-down.ensures.im ∙ ap (λ p. rounded (neg_ℤ p.im) 15) e)

pub returns-clause-three : goal.returns-clause-three
returns-clause-three c =
    let a : FitsSigned w64 c.nearest-up.result.re = search rules in
    let b : FitsSigned w64 c.nearest_negated-down.result.im = search rules in
    let e = c.products-p.ensures.value in
    simp to_z-of_z
    (three_quarters c.args.z c.args.w.cosine c.args.w.sine c.nearest-up.result.re c.nearest_negated-down.result.im
    (c.nearest_negated-down.ensures.im ∙ ap (λ p. rounded (neg_ℤ p.im) 15) e) (c.nearest-up.ensures.re ∙ ap (λ p. rounded p.re 15) e))
