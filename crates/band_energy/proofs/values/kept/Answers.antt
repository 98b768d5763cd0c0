use Rattle.std.proofs.Common.{◌≡◌, w64, FitsSigned, pos, neg_ℤ, ◌+ℤ◌, ◌*ℤ◌, ap, ◌∙◌}
use Rattle.std.specs.Int.{int_shr, int_max}
use Rattle.std.proofs.lemmas.Int.{to_z-of_z}
use Rattle.band_energy.specs.EnergyValues.{kept_of}
use Rattle.band_energy.proofs.ValueSteps.{kept_fits}
use Rattle.band_energy.proofs.values.kept.Goals as goal

pub returns-clause-value : goal.returns-clause-value
unfolding kept_of
returns-clause-value c =
    let a : FitsSigned w64 c.from.result = record { sfits = c.from.type_inv } in
    let m : FitsSigned w64 c.counted.result = record { sfits = c.counted.type_inv } in
    let o = c.ranges.old in
    let v : c.counted.result ≡ int_max (neg_ℤ (pos 9216)) c.args.old = simp to_z-of_z at c.counted.ensures.value in
    let fits = kept_fits c.args.alpha c.from.result c.counted.result c.from.ensures c.requires.alpha c.counted.ensures.least c.counted.ensures.most in
    let p = fits.product in
    let s = fits.sum in
    let r = fits.shift in
    simp to_z-of_z
    (ap (λ z. int_shr (z *ℤ c.counted.result +ℤ pos 128) 8) c.from.ensures
    ∙ ap (λ z. int_shr (pos c.args.alpha *ℤ z +ℤ pos 128) 8) v)

pub returns-clause-most : goal.returns-clause-most
returns-clause-most c =
    let a : FitsSigned w64 c.from.result = record { sfits = c.from.type_inv } in
    let m : FitsSigned w64 c.counted.result = record { sfits = c.counted.type_inv } in
    let fits = kept_fits c.args.alpha c.from.result c.counted.result c.from.ensures c.requires.alpha c.counted.ensures.least c.counted.ensures.most in
    let p = fits.product in
    let s = fits.sum in
    let r = fits.shift in
    simp to_z-of_z fits.most
