use Rattle.std.proofs.Common.{◌≡◌, ℕ, ◌+◌, inr, ap, arith, rules, ◌∙◌}
use Rattle.std.specs.Prelude.{ℤ, ◌+ℤ◌, FitsSigned}
use Rattle.std.specs.Int.{w32, int_wrap}
use Rattle.std.proofs.lemmas.Int.{wrapping_add_is}
use Rattle.fixed_math.specs.Items.{item}
use Rattle.celt_analysis.proofs.PlaceLemmas.{put-start, put-more}
use Rattle.celt_analysis.proofs.karatsuba.add_all.Goals as goal

pub loop-i-init : goal.loop-i-init
loop-i-init c = put-start (λ k. int_wrap w32 (item c.args.out.now (c.args.to + k) +ℤ item c.args.out.now (c.args.from + k))) c.args.out.now c.args.to

pub loop-i-preserved : goal.loop-i-preserved
loop-i-preserved c =
    let f : ℕ → ℤ = λ k. int_wrap w32 (item c.args.out.now (c.args.to + k) +ℤ item c.args.out.now (c.args.from + k)) in
    let x : ℤ = item c.loop-i.out (c.args.to + c.loop-i.i) in
    let y : ℤ = item c.loop-i.out (c.args.from + c.loop-i.i) in
    let fx : FitsSigned w32 x = search rules in
    let fy : FitsSigned w32 y = search rules in
    let same : x ≡ item c.args.out.now (c.args.to + c.loop-i.i) = c.loop-i.invariant.others (c.args.to + c.loop-i.i) (inr (omega arith)) in
    let there : y ≡ item c.args.out.now (c.args.from + c.loop-i.i) = c.loop-i.invariant.others (c.args.from + c.loop-i.i) (inr (omega (arith, c.requires.room))) in
    put-more f c.args.out.now c.loop-i.out c.args.to c.loop-i.i _ (omega (arith, c.requires.room, c.requires.count)) (wrapping_add_is w32 x y fx fy ∙ ap (λ z. int_wrap w32 (z +ℤ y)) same ∙ ap (λ z. int_wrap w32 (item c.args.out.now (c.args.to + c.loop-i.i) +ℤ z)) there) c.loop-i.invariant
