use Rattle.std.proofs.Common.{◌≡◌, ℕ, ◌-◌, ◌^◌, ◌≤◌, ◌∙◌, ap, sym, subst, arith, rules, List}
use Rattle.std.specs.Prelude.{ℤ, pos, ◌-ℤ◌, unsigned_abs, FitsSigned}
use Rattle.std.specs.Int.{w64}
use Rattle.std.proofs.lemmas.Int.{to_z-of_z, fits_signed_from_abs, ints}
use Rattle.fixed_math.specs.Items.{item}
use Rattle.mdct_fixed.specs.Mdct.{weighted}
use Rattle.mdct_fixed.proofs.MdctLemmas.{started_next, negated}
use Rattle.mdct_fixed.proofs.windowing.window_start.Goals as goal

pub loop-t-preserved : goal.loop-t-preserved
loop-t-preserved c =
    let old : List ℤ = c.args.out.now in
    let t : ℕ = c.loop-t.t in
    let x : ℤ = item c.loop-t.out (119 - t) in
    let same : x ≡ item old (119 - t) = c.loop-t.invariant.inside (119 - t) (omega arith) (omega arith) in
    let size : unsigned_abs x ≤ 2 ^ 46 = subst (λ z. unsigned_abs z ≤ 2 ^ 46) (sym same) (c.requires.small (119 - t) (omega arith) (omega arith)) in
    let fx : FitsSigned w64 x = fits_signed_from_abs w64 x (omega arith) in
    let fn : FitsSigned w64 (pos 0 -ℤ x) = fits_signed_from_abs w64 (pos 0 -ℤ x) (omega (arith, ints)) in
    let fv : FitsSigned w64 c.weigh.result = search rules in
    let fw : FitsSigned w64 c.weigh-in-loop-t.result = search rules in
    let e : c.weigh.result ≡ weighted (pos 0 -ℤ x) t = simp to_z-of_z at c.weigh.ensures.value in
    let f : c.weigh-in-loop-t.result ≡ weighted x (119 - t) = simp to_z-of_z at c.weigh-in-loop-t.ensures.value in
    simp to_z-of_z
    (started_next t old c.loop-t.out c.weigh.result c.weigh-in-loop-t.result (omega arith) (omega arith)
    (e ∙ ap (λ z. weighted z t) (negated (item old (119 - t)) x same)) (f ∙ ap (λ z. weighted z (119 - t)) same) c.loop-t.invariant)
