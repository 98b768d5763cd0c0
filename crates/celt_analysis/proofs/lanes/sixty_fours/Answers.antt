use Rattle.std.proofs.Common.{◌≡◌, ℕ, ◌+◌, ◌*◌, ◌<◌, ◌^◌, sym, ap, arith, rules, ◌∙◌}
use Rattle.std.specs.Prelude.{ℤ, ◌+ℤ◌, ◌*ℤ◌, FitsSigned}
use Rattle.std.specs.Int.{w32, int_wrap, cast_signed as to_z}
use Rattle.std.proofs.lemmas.Int.{wrapping_add_onto, int_wrap-add_left, int_wrap-add_right}
use Rattle.fixed_math.specs.Items.{item}
use Rattle.celt_analysis.specs.Sums.{correlation}
use Rattle.celt_analysis.proofs.SumLemmas.{signed_sum-none, correlation-join}
use Rattle.celt_analysis.proofs.KaratsubaLemmas.{wrap-zero}
use Rattle.celt_analysis.proofs.lanes.sixty_fours.Goals as goal

pub loop-k-init : goal.loop-k-init
loop-k-init c = wrap-zero _ (signed_sum-none (λ i. item c.args.s.now (c.args.i + i) *ℤ item c.args.s.now (c.args.j + i)))

pub loop-k-preserved : goal.loop-k-preserved
loop-k-preserved c =
    let k : ℕ = c.loop-k.k in
    let s : ℕ → ℤ = item c.args.s.now in
    let m : ℤ = correlation s s c.args.i c.args.j (64 * k) in
    let e : ℤ = correlation s s (c.args.i + 64 * k) (c.args.j + 64 * k) 64 in
    let fp : FitsSigned w32 c.sixty_four-sum.result = search rules in
    let i : to_z w32 c.loop-k.sum-bits ≡ int_wrap w32 m = c.loop-k.invariant in
    let b : c.loop-k.sum-bits < 2 ^ 32 = omega (arith, c.loop-k.auto.sum) in
    let n : 64 * k + 64 ≡ 64 * (k + 1) = omega arith in
    wrapping_add_onto w32 c.loop-k.sum-bits c.sixty_four-sum.result b fp ∙ ap (λ z. int_wrap w32 (z +ℤ c.sixty_four-sum.result)) i ∙ ap (λ z. int_wrap w32 (int_wrap w32 m +ℤ z)) c.sixty_four-sum.ensures ∙ int_wrap-add_left w32 m (int_wrap w32 e) ∙ int_wrap-add_right w32 m e
    ∙ ap (int_wrap w32) (sym (correlation-join s s c.args.i c.args.j (64 * k) 64) ∙ ap (correlation s s c.args.i c.args.j) n)
