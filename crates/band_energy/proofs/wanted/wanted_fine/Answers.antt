use Rattle.std.proofs.Common.{◌≡◌, ◌^◌, w64, FitsSigned, ℤ, pos, ◌+ℤ◌, ◌-ℤ◌, ◌*ℤ◌, ap, sym, subst, ◌∙◌}
use Rattle.std.specs.Int.{int_shr}
use Rattle.std.proofs.lemmas.Int.{to_z-of_z}
use Rattle.band_energy.specs.WantedEnergies.{wanted_fine}
use Rattle.band_energy.proofs.WantedSteps.{fine_fits, few_parts, parts_are}
use Rattle.band_energy.proofs.wanted.wanted_fine.Goals as goal

pub overflow_mul-result : goal.overflow_mul-result
overflow_mul-result c =
    let is : c.from.result ≡ pos (2 ^ c.args.bits) = c.from.ensures ∙ ap pos (parts_are c.args.bits c.requires.bits) in
    let fits = fine_fits c.args.target.value c.args.energy.value (2 ^ c.args.bits) c.requires.target c.requires.energy (few_parts c.args.bits c.requires.bits) in
    let t = fits.target_fits in
    let e = fits.energy_fits in
    let l = fits.less in
    let s = fits.sum in
    let f : FitsSigned w64 c.from.result = record { sfits = c.from.type_inv } in
    simp to_z-of_z
    (subst (λ x. FitsSigned w64 ((c.args.target.value -ℤ c.args.energy.value +ℤ pos 512) *ℤ x)) (sym is) fits.product)

pub returns : goal.returns
unfolding wanted_fine
returns c =
    let is : c.from.result ≡ pos (2 ^ c.args.bits) = c.from.ensures ∙ ap pos (parts_are c.args.bits c.requires.bits) in
    let fits = fine_fits c.args.target.value c.args.energy.value (2 ^ c.args.bits) c.requires.target c.requires.energy (few_parts c.args.bits c.requires.bits) in
    let t = fits.target_fits in
    let e = fits.energy_fits in
    let l = fits.less in
    let s = fits.sum in
    let f : FitsSigned w64 c.from.result = record { sfits = c.from.type_inv } in
    let difference : ℤ = c.args.target.value -ℤ c.args.energy.value +ℤ pos 512 in
    let p : FitsSigned w64 (c.args.target.value -ℤ c.args.energy.value +ℤ pos 512) = fits.sum in
    let m : FitsSigned w64 ((c.args.target.value -ℤ c.args.energy.value +ℤ pos 512) *ℤ c.from.result) =
    subst (λ x. FitsSigned w64 (difference *ℤ x)) (sym is) fits.product in
    let r : FitsSigned w64 (int_shr ((c.args.target.value -ℤ c.args.energy.value +ℤ pos 512) *ℤ c.from.result) 10) =
    subst (λ x. FitsSigned w64 (int_shr (difference *ℤ x) 10)) (sym is) fits.wanted in
    simp to_z-of_z (ap (λ x. int_shr (difference *ℤ x) 10) is)
