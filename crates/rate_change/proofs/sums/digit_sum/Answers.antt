use Rattle.std.proofs.Common.{◌≡◌, ℕ, ◌≤◌, ◌^◌, arith, rules, refl, ap, ◌∙◌, to_z}
use Rattle.std.specs.Prelude.{ℤ, ◌+ℤ◌, ◌*ℤ◌, unsigned_abs, FitsSigned}
use Rattle.std.specs.Int.{w16, w32}
use Rattle.std.proofs.lemmas.Int.{to_z-of_z}
use Rattle.fixed_math.specs.Items.{item}
use Rattle.fixed_math.proofs.ItemLemmas.{item_within}
use Rattle.rate_change.specs.Resampling.{first_sum}
use Rattle.rate_change.proofs.SumLemmas.{product_step, product_steps}
use Rattle.rate_change.proofs.NearestLemmas.{sixteen_size}
use Rattle.rate_change.proofs.sums.digit_sum.Goals as goal

pub loop-t-init : goal.loop-t-init
unfolding first_sum
loop-t-init c = (refl, omega arith)

pub overflow_add-sum : goal.overflow_add-sum
overflow_add-sum c =
    let t : ℕ = c.loop-t.t in
    let w : ℤ = item c.args.digits.now t in
    let x : ℤ = item c.args.window.now t in
    let fw : FitsSigned w16 w = search rules in
    let fx : FitsSigned w16 x = search rules in
    let a : FitsSigned w32 c.from.result = search rules in
    let b : FitsSigned w32 c.from-in-loop-t.result = search rules in
    let d : c.from.result ≡ w = simp to_z-of_z at c.from.ensures in
    let e : c.from-in-loop-t.result ≡ x = simp to_z-of_z at c.from-in-loop-t.ensures in
    let p : unsigned_abs c.from.result ≤ 2047 = rw d (item_within c.args.digits.now 2047 t c.requires) in
    let q : unsigned_abs c.from-in-loop-t.result ≤ 2 ^ 15 = rw e (sixteen_size x fx) in
    let s = product_steps (to_z w32 c.loop-t.sum-bits) c.from.result c.from-in-loop-t.result t c.loop-t-test.true c.loop-t.invariant.1 p q in
    let m = s.product in
    simp to_z-of_z s.sum

pub loop-t-preserved : goal.loop-t-preserved
loop-t-preserved c =
    let t : ℕ = c.loop-t.t in
    let w : ℤ = item c.args.digits.now t in
    let x : ℤ = item c.args.window.now t in
    let fw : FitsSigned w16 w = search rules in
    let fx : FitsSigned w16 x = search rules in
    let a : FitsSigned w32 c.from.result = search rules in
    let b : FitsSigned w32 c.from-in-loop-t.result = search rules in
    let d : c.from.result ≡ w = simp to_z-of_z at c.from.ensures in
    let e : c.from-in-loop-t.result ≡ x = simp to_z-of_z at c.from-in-loop-t.ensures in
    let p : unsigned_abs c.from.result ≤ 2047 = rw d (item_within c.args.digits.now 2047 t c.requires) in
    let q : unsigned_abs c.from-in-loop-t.result ≤ 2 ^ 15 = rw e (sixteen_size x fx) in
    let s = product_steps (to_z w32 c.loop-t.sum-bits) c.from.result c.from-in-loop-t.result t c.loop-t-test.true c.loop-t.invariant.1 p q in
    let m = s.product in
    let f : ℤ = to_z w32 c.loop-t.sum-bits in
    let u = s.sum in
    simp to_z-of_z (ap (λ z. f +ℤ z *ℤ c.from-in-loop-t.result) d ∙ ap (λ z. f +ℤ w *ℤ z) e ∙ product_step c.args.digits.now c.args.window.now t f c.loop-t.invariant.0, s.size)
