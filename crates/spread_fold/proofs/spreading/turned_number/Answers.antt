use Rattle.std.proofs.Common.{◌≡◌, ◌∙◌, ap, sym, rules, ◌^◌}
use Rattle.std.specs.Prelude.{FitsSigned, pos, neg_ℤ, ◌*ℤ◌, ◌+ℤ◌}
use Rattle.std.specs.Int.{w64, int_max, int_min}
use Rattle.std.proofs.lemmas.Int.{to_z-of_z}
use Rattle.fixed_math.specs.Rounding.{rounded}
use Rattle.spread_fold.specs.Spreading.{clamped}
use Rattle.spread_fold.proofs.CalmLemmas.{clamped_inside}
use Rattle.spread_fold.proofs.spreading.turned_number.Goals as goal

pub returns-then-calm-clause-value : goal.returns-then-calm-clause-value
returns-then-calm-clause-value c =
    let fa = c.ranges.a in
    let fb = c.ranges.b in
    let fc = c.ranges.c in
    let fs = c.ranges.s in
    let fr : FitsSigned w64 c.rounded_sum-v.result = search rules in
    let e : c.rounded_sum-v.result ≡ rounded (c.args.a *ℤ c.args.c +ℤ c.args.b *ℤ c.args.s) 15 = simp to_z-of_z at c.rounded_sum-v.ensures.value in
    simp to_z-of_z (e ∙ sym (clamped_inside (rounded (c.args.a *ℤ c.args.c +ℤ c.args.b *ℤ c.args.s) 15) (c.requires.calm c.if-calm.true)))

pub returns-else-calm-clause-value : goal.returns-else-calm-clause-value
unfolding clamped
returns-else-calm-clause-value c =
    let fa = c.ranges.a in
    let fb = c.ranges.b in
    let fc = c.ranges.c in
    let fs = c.ranges.s in
    let fr : FitsSigned w64 c.rounded_sum-v.result = search rules in
    let fk : FitsSigned w64 c.clamp.result = search rules in
    let e : c.rounded_sum-v.result ≡ rounded (c.args.a *ℤ c.args.c +ℤ c.args.b *ℤ c.args.s) 15 = simp to_z-of_z at c.rounded_sum-v.ensures.value in
    let f : c.clamp.result ≡ int_max (neg_ℤ (pos (2 ^ 17))) (int_min c.rounded_sum-v.result (pos (2 ^ 17))) = simp to_z-of_z at c.clamp.ensures.value in
    simp to_z-of_z (f ∙ ap (λ z. int_max (neg_ℤ (pos (2 ^ 17))) (int_min z (pos (2 ^ 17)))) e)
