use Rattle.std.proofs.Common.{◌+◌, ◌*◌, ◌/◌, ◌^◌, ◌≤◌, w64, FitsSigned, pos, ◌+ℤ◌, ◌-ℤ◌, unsigned_abs, arith, ap, ◌∙◌}
use Rattle.std.proofs.lemmas.Int.{to_z-of_z, ints, fits_signed_from_abs}
use Rattle.std.proofs.Math.Nat.{div-le_self}
use Rattle.band_energy.specs.EnergyValues.{fine_of}
use Rattle.band_energy.specs.WantedEnergies.{energy_by_fine}
use Rattle.band_energy.proofs.ValueSteps.{energy_type}
use Rattle.band_energy.proofs.wanted.energy_by_fine.Goals as goal

pub returns-clause-value : goal.returns-clause-value
unfolding energy_by_fine fine_of
returns-clause-value c =
    let energy = c.args.energy.value in
    let part = c.from-part.result in
    let same = c.from.ensures in
    let is = c.from-part.ensures in
    let few = c.ranges.fine.fits in
    let low = c.requires.energy.least in
    let high = c.requires.energy.most in
    let less = div-le_self (c.from.result * 1024 + 512) (2 ^ c.args.bits) in
    let size : unsigned_abs part ≤ 2 ^ 18 = omega (arith, ints, same, is, few, less) in
    let e : FitsSigned w64 energy = energy_type energy c.requires.energy in
    let p : FitsSigned w64 part = fits_signed_from_abs w64 part (omega (arith, size)) in
    let q : FitsSigned w64 (part -ℤ pos 512) = fits_signed_from_abs w64 (part -ℤ pos 512) (omega (arith, ints, size)) in
    let s : FitsSigned w64 (energy +ℤ (part -ℤ pos 512)) = fits_signed_from_abs w64 (energy +ℤ (part -ℤ pos 512)) (omega (arith, ints, size, low, high)) in
    simp to_z-of_z (ap (λ x. energy +ℤ (x -ℤ pos 512)) (is ∙ ap (λ n. pos ((n * 1024 + 512) / 2 ^ c.args.bits)) same))
