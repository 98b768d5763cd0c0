use Rattle.std.proofs.Common.{◌≡◌, ◌-◌, ◌^◌, ◌≤◌, ◌∙◌, ap, sym, subst, arith}
use Rattle.std.specs.Prelude.{ℤ, ◌-ℤ◌, unsigned_abs, FitsSigned}
use Rattle.std.specs.Int.{w64}
use Rattle.std.proofs.lemmas.Int.{to_z-of_z, fits_signed_from_abs}
use Rattle.fixed_math.specs.Items.{item}
use Rattle.mdct_fixed.specs.Mdct.{weighted}
use Rattle.mdct_fixed.proofs.MdctLemmas.{weighted_size}
use Rattle.mdct_fixed.proofs.ForwardLemmas.{difference_steps}
use Rattle.mdct_fixed.proofs.folding.rising.Goals as goal

pub overflow_sub-result : goal.overflow_sub-result
overflow_sub-result c =
    let x : ℤ = item c.args.values.now (c.args.t) in
    let y : ℤ = item c.args.values.now (119 - c.args.t) in
    let sx : unsigned_abs x ≤ 2 ^ 29 = c.requires.small (c.args.t) (omega arith) in
    let sy : unsigned_abs y ≤ 2 ^ 29 = c.requires.small (119 - c.args.t) (omega arith) in
    let fx : FitsSigned w64 x = fits_signed_from_abs w64 x (omega arith) in
    let fy : FitsSigned w64 y = fits_signed_from_abs w64 y (omega arith) in
    let ea : c.weigh.result ≡ weighted x (c.args.t) = simp to_z-of_z at c.weigh.ensures.value in
    let eb : c.weigh-2.result ≡ weighted y (119 - c.args.t) = simp to_z-of_z at c.weigh-2.ensures.value in
    let sa : unsigned_abs c.weigh.result ≤ 2 ^ 46 = subst (λ z. unsigned_abs z ≤ 2 ^ 46) (sym ea) (weighted_size x (c.args.t) (2 ^ 46) (omega arith) (omega arith)) in
    let sb : unsigned_abs c.weigh-2.result ≤ 2 ^ 46 = subst (λ z. unsigned_abs z ≤ 2 ^ 46) (sym eb) (weighted_size y (119 - c.args.t) (2 ^ 46) (omega arith) (omega arith)) in
    let t = difference_steps c.weigh.result c.weigh-2.result sa sb in
    let t1 = t.first in
    let t2 = t.second in
    let t3 = t.negated in
    let t4 = t.sum in
    let t5 = t.difference in
    simp to_z-of_z t.difference

pub returns : goal.returns
returns c =
    let x : ℤ = item c.args.values.now (c.args.t) in
    let y : ℤ = item c.args.values.now (119 - c.args.t) in
    let sx : unsigned_abs x ≤ 2 ^ 29 = c.requires.small (c.args.t) (omega arith) in
    let sy : unsigned_abs y ≤ 2 ^ 29 = c.requires.small (119 - c.args.t) (omega arith) in
    let fx : FitsSigned w64 x = fits_signed_from_abs w64 x (omega arith) in
    let fy : FitsSigned w64 y = fits_signed_from_abs w64 y (omega arith) in
    let ea : c.weigh.result ≡ weighted x (c.args.t) = simp to_z-of_z at c.weigh.ensures.value in
    let eb : c.weigh-2.result ≡ weighted y (119 - c.args.t) = simp to_z-of_z at c.weigh-2.ensures.value in
    let sa : unsigned_abs c.weigh.result ≤ 2 ^ 46 = subst (λ z. unsigned_abs z ≤ 2 ^ 46) (sym ea) (weighted_size x (c.args.t) (2 ^ 46) (omega arith) (omega arith)) in
    let sb : unsigned_abs c.weigh-2.result ≤ 2 ^ 46 = subst (λ z. unsigned_abs z ≤ 2 ^ 46) (sym eb) (weighted_size y (119 - c.args.t) (2 ^ 46) (omega arith) (omega arith)) in
    let t = difference_steps c.weigh.result c.weigh-2.result sa sb in
    let t1 = t.first in
    let t2 = t.second in
    let t3 = t.negated in
    let t4 = t.sum in
    let t5 = t.difference in
    simp to_z-of_z (ap (λ z. z -ℤ c.weigh-2.result) ea ∙ ap (λ z. weighted x c.args.t -ℤ z) eb)
