use Rattle.std.proofs.Common.{◌≡◌, ℕ, ◌+◌, ◌-◌, ◌^◌, ◌≤◌, ◌∙◌, ap, sym, subst, arith, rules, List}
use Rattle.std.specs.Prelude.{ℤ, unsigned_abs, FitsSigned}
use Rattle.std.specs.Int.{w64}
use Rattle.std.proofs.lemmas.Int.{to_z-of_z, fits_signed_from_abs}
use Rattle.fixed_math.specs.Items.{item}
use Rattle.mdct_fixed.specs.Mdct.{weighted}
use Rattle.mdct_fixed.proofs.MdctLemmas.{ended_next}
use Rattle.mdct_fixed.proofs.windowing.window_end.Goals as goal

pub loop-t-preserved : goal.loop-t-preserved
loop-t-preserved c =
    let old : List ℤ = c.args.out.now in
    let n : ℕ = c.args.n in
    let t : ℕ = c.loop-t.t in
    let x : ℤ = item c.loop-t.out (n + 59 - t) in
    let same : x ≡ item old (n + 59 - t) = c.loop-t.invariant.before (n + 59 - t) (omega arith) in
    let size : unsigned_abs x ≤ 2 ^ 46 = subst (λ z. unsigned_abs z ≤ 2 ^ 46) (sym same) (c.requires.small (n + 59 - t) (omega arith) (omega arith)) in
    let fx : FitsSigned w64 x = fits_signed_from_abs w64 x (omega arith) in
    let fv : FitsSigned w64 c.weigh.result = search rules in
    let fw : FitsSigned w64 c.weigh-in-loop-t.result = search rules in
    let e : c.weigh.result ≡ weighted x (60 + t) = simp to_z-of_z at c.weigh.ensures.value in
    let f : c.weigh-in-loop-t.result ≡ weighted x (59 - t) = simp to_z-of_z at c.weigh-in-loop-t.ensures.value in
    simp to_z-of_z
    (ended_next n t old c.loop-t.out c.weigh.result c.weigh-in-loop-t.result (omega arith) (omega arith)
    (e ∙ ap (λ z. weighted z (60 + t)) same) (f ∙ ap (λ z. weighted z (59 - t)) same) c.loop-t.invariant)
