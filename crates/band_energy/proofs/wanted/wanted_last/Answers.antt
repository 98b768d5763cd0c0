use Rattle.std.proofs.Common.{w64, FitsSigned, if◌then◌else◌, pos, ap, sym, arith}
use Rattle.std.proofs.lemmas.Int.{to_z-of_z, fits_signed_from_abs}
use Rattle.band_energy.specs.WantedEnergies.{wanted_last}
use Rattle.band_energy.proofs.wanted.wanted_last.Goals as goal

pub returns-then-target-energy : goal.returns-then-target-energy
unfolding wanted_last
returns-then-target-energy c =
    let near = c.requires.target in
    let size = c.requires.energy in
    let t : FitsSigned w64 c.args.target.value = fits_signed_from_abs w64 c.args.target.value (omega (arith, near)) in
    let e : FitsSigned w64 c.args.energy.value = fits_signed_from_abs w64 c.args.energy.value (omega (arith, size)) in
    ap (λ b. if b then pos 1 else pos 0) (sym (simp to_z-of_z at c.if-target-energy.true))

pub returns : goal.returns
unfolding wanted_last
returns c =
    let near = c.requires.target in
    let size = c.requires.energy in
    let t : FitsSigned w64 c.args.target.value = fits_signed_from_abs w64 c.args.target.value (omega (arith, near)) in
    let e : FitsSigned w64 c.args.energy.value = fits_signed_from_abs w64 c.args.energy.value (omega (arith, size)) in
    ap (λ b. if b then pos 1 else pos 0) (sym (simp to_z-of_z at c.if-target-energy.false))
