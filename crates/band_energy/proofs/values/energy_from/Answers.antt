use Rattle.std.proofs.Common.{◌≡◌, ◌*◌, ◌^◌, w64, FitsSigned, pos, neg_ℤ, ◌+ℤ◌, ◌≤ℤ◌, ap, arith}
use Rattle.std.specs.Int.{int_shr, int_max}
use Rattle.std.proofs.lemmas.Int.{to_z-of_z, ints}
use Rattle.band_energy.specs.EnergyValues.{energy_from}
use Rattle.band_energy.proofs.ValueSteps.{energy_fits, max_most}
use Rattle.band_energy.proofs.values.energy_from.Goals as goal

pub returns-clause-value : goal.returns-clause-value
unfolding energy_from
returns-clause-value c =
    let o = c.ranges.sum in
    let m : FitsSigned w64 c.max.result = record { sfits = c.max.type_inv } in
    let v : c.max.result ≡ int_max c.args.sum (neg_ℤ (pos (28 * 2 ^ 17))) = simp to_z-of_z at c.max.ensures.value in
    let high : c.max.result ≤ℤ pos (126 * 2 ^ 33) =
    max_most c.args.sum (neg_ℤ (pos (28 * 2 ^ 17))) (pos (126 * 2 ^ 33)) c.max.result v c.requires (omega (arith, ints)) in
    let fits = energy_fits c.max.result c.max.ensures.other_bound high in
    let s = fits.sum in
    let r = fits.shift in
    simp to_z-of_z (ap (λ z. int_shr (z +ℤ pos 64) 7) v)
