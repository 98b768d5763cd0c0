use Rattle.std.proofs.Common.{◌≡◌, ◌≢◌, ◌∙◌, sym, arith, rules}
use Rattle.std.specs.Prelude.{ℤ, pos, unsigned_abs, FitsSigned}
use Rattle.std.specs.Int.{w32}
use Rattle.std.proofs.lemmas.Int.{ints}
use Rattle.fixed_math.specs.Items.{item}
use Rattle.spread_fold.proofs.MaskLemmas.{pulse_here, pulse_next, pulse_none}
use Rattle.spread_fold.proofs.masks.is_coded.Goals as goal

pub loop-v-preserved : goal.loop-v-preserved
loop-v-preserved c =
    let v : ℤ = item c.args.y.now c.loop-v.v-index in
    let fits : FitsSigned w32 v = search rules in
    let z : v ≡ pos 0 = omega (arith, ints) in
    c.loop-v.invariant ∙ pulse_next c.args.y.now c.loop-v.v-index c.loop-v-test.true z

pub returns-then-v-ne0 : goal.returns-then-v-ne0
returns-then-v-ne0 c =
    let v : ℤ = item c.args.y.now c.loop-v.v-index in
    let n : unsigned_abs v ≢ 0 = λ e. c.if-v-ne0.true (omega (arith, ints)) in
    sym (c.loop-v.invariant ∙ pulse_here c.args.y.now c.loop-v.v-index c.loop-v-test.true n)

pub returns : goal.returns
returns c = sym (c.loop-v.invariant ∙ pulse_none c.args.y.now c.loop-v.v-index c.loop-v-test.false)
