use Rattle.std.proofs.Common.{◌≡◌, ◌∙◌, ℕ, arith, ap, rules, List}
use Rattle.std.specs.Prelude.{ℤ, FitsSigned, ◌+ℤ◌, ◌-ℤ◌}
use Rattle.std.specs.Int.{w64}
use Rattle.std.proofs.lemmas.Int.{to_z-of_z, fits_signed_from_abs, ints}
use Rattle.tf_change.specs.Haar.{scaled}
use Rattle.fixed_math.specs.Items.{item}
use Rattle.tf_change.proofs.HaarLemmas.{pair_low, pair_high}
use Rattle.tf_change.proofs.haar_step.change_pair.Goals as goal

pub returns-clause-sum : goal.returns-clause-sum
returns-clause-sum c =
    let xs : List ℤ = c.args.x.now in
    let low : ℕ = c.args.low in
    let high : ℕ = c.args.high in
    let a : ℤ = c.over_root-a.result in
    let b : ℤ = c.over_root-b.result in
    let fa : FitsSigned w64 a = search rules in
    let fb : FitsSigned w64 b = search rules in
    let fs : FitsSigned w64 (a +ℤ b) = fits_signed_from_abs w64 (a +ℤ b) (omega (arith, ints)) in
    let fd : FitsSigned w64 (a -ℤ b) = fits_signed_from_abs w64 (a -ℤ b) (omega (arith, ints)) in
    let fl : FitsSigned w64 (item xs low) = fits_signed_from_abs w64 (item xs low) (omega arith) in
    let fh : FitsSigned w64 (item xs high) = fits_signed_from_abs w64 (item xs high) (omega arith) in
    let ea : a ≡ scaled (item xs low) = simp to_z-of_z at c.over_root-a.ensures.value in
    let eb : b ≡ scaled (item xs high) = simp to_z-of_z at c.over_root-b.ensures.value in
    simp to_z-of_z (pair_low xs low high (a +ℤ b) _ c.requires.order c.requires.within ∙ ap (λ v. v +ℤ b) ea ∙ ap (λ v. scaled (item xs low) +ℤ v) eb)

pub returns-clause-difference : goal.returns-clause-difference
returns-clause-difference c =
    let xs : List ℤ = c.args.x.now in
    let low : ℕ = c.args.low in
    let high : ℕ = c.args.high in
    let a : ℤ = c.over_root-a.result in
    let b : ℤ = c.over_root-b.result in
    let fa : FitsSigned w64 a = search rules in
    let fb : FitsSigned w64 b = search rules in
    let fs : FitsSigned w64 (a +ℤ b) = fits_signed_from_abs w64 (a +ℤ b) (omega (arith, ints)) in
    let fd : FitsSigned w64 (a -ℤ b) = fits_signed_from_abs w64 (a -ℤ b) (omega (arith, ints)) in
    let fl : FitsSigned w64 (item xs low) = fits_signed_from_abs w64 (item xs low) (omega arith) in
    let fh : FitsSigned w64 (item xs high) = fits_signed_from_abs w64 (item xs high) (omega arith) in
    let ea : a ≡ scaled (item xs low) = simp to_z-of_z at c.over_root-a.ensures.value in
    let eb : b ≡ scaled (item xs high) = simp to_z-of_z at c.over_root-b.ensures.value in
    simp to_z-of_z (pair_high xs low high (a +ℤ b) (a -ℤ b) c.requires.within ∙ ap (λ v. v -ℤ b) ea ∙ ap (λ v. scaled (item xs low) -ℤ v) eb)
