use Rattle.std.proofs.Common.{w64, FitsSigned, pos, ◌-ℤ◌, arith, ap}
use Rattle.std.proofs.lemmas.Int.{to_z-of_z, ints, fits_signed_from_abs}
use Rattle.band_energy.specs.EnergyValues.{fine_of}
use Rattle.band_energy.proofs.values.fine_part.Goals as goal

pub returns-clause-value : goal.returns-clause-value
unfolding fine_of
returns-clause-value c =
    let e = c.from.ensures in
    let t = c.from.type_inv in
    let f : FitsSigned w64 c.from.result = record { sfits = t } in
    let g : FitsSigned w64 (c.from.result -ℤ pos 512) = fits_signed_from_abs w64 (c.from.result -ℤ pos 512) (omega (arith, ints, e, t)) in
    simp to_z-of_z (ap (λ z. z -ℤ pos 512) e)
