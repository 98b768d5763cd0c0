use Rattle.std.proofs.Common.{◌≡◌, ℕ, ◌+◌, ◌*◌, ◌<◌, length, arith, rules}
use Rattle.std.specs.Prelude.{ℤ, ◌+ℤ◌, FitsSigned}
use Rattle.std.specs.Int.{w16, int_shr}
use Rattle.std.proofs.lemmas.Int.{to_z-of_z}
use Rattle.fixed_math.specs.Items.{item}
use Rattle.celt_analysis.proofs.PlaceLemmas.{over-more}
use Rattle.celt_analysis.proofs.downmix.mix.Goals as goal

pub loop-i-preserved : goal.loop-i-preserved
loop-i-preserved c =
    let f : ℕ → ℤ = λ k. int_shr (item c.args.window.now (2 * (123 + k)) +ℤ item c.args.window.now (2 * (123 + k) + 1)) 1 in
    let i : ℕ = c.loop-i.i in
    let x : ℤ = item c.args.window.now (2 * (123 + i)) in
    let y : ℤ = item c.args.window.now (2 * (123 + i) + 1) in
    let fx : FitsSigned w16 x = search rules in
    let fy : FitsSigned w16 y = search rules in
    let r : ℤ = c.middle.result in
    let fr : FitsSigned w16 r = search rules in
    let e : r ≡ f i = simp to_z-of_z at c.middle.ensures in
    let l : i < length c.args.out.now = omega arith in
    simp to_z-of_z (over-more f c.args.out.now c.loop-i.out i r l e c.loop-i.invariant)
