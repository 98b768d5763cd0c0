use Rattle.std.proofs.Common.{◌+◌, ◌<◌, ◌≤◌, w64, FitsSigned, IfSome, pos, ◌-ℤ◌, ◌*ℤ◌, unsigned_abs, arith, ap, ◌∙◌, sym, subst}
use Rattle.std.specs.Int.{int_shr}
use Rattle.std.proofs.lemmas.Int.{to_z-of_z, ints, fits_signed_from_abs}
use Rattle.band_energy.specs.EnergyValues.{last_of}
use Rattle.band_energy.proofs.ValueSteps.{shr_within}
use Rattle.band_energy.proofs.values.last_part.Goals as goal

pub returns-in-None-clause-value : goal.returns-in-None-clause-value
unfolding last_of
returns-in-None-clause-value c = ap (last_of c.args.bits) (sym c.in-None.is)

pub returns-in-Some-clause-value : goal.returns-in-Some-clause-value
unfolding last_of
returns-in-Some-clause-value c =
    let e = c.from.ensures in
    let b : c.in-Some.bit < 2 = subst (λ o. IfSome o (λ bit. bit < 2)) c.in-Some.is c.requires.bit in
    let f : FitsSigned w64 c.from.result = record { sfits = c.from.type_inv } in
    let small : unsigned_abs (c.from.result *ℤ pos 1024 -ℤ pos 512) ≤ 512 = omega (arith, ints, e, b) in
    let g : FitsSigned w64 (c.from.result *ℤ pos 1024) = fits_signed_from_abs w64 (c.from.result *ℤ pos 1024) (omega (arith, ints, e, b)) in
    let h : FitsSigned w64 (c.from.result *ℤ pos 1024 -ℤ pos 512) = fits_signed_from_abs w64 (c.from.result *ℤ pos 1024 -ℤ pos 512) (omega (arith, ints, small)) in
    let s = shr_within (c.from.result *ℤ pos 1024 -ℤ pos 512) (c.args.bits + 1) 512 small in
    let k : FitsSigned w64 (int_shr (c.from.result *ℤ pos 1024 -ℤ pos 512) (c.args.bits + 1)) =
    fits_signed_from_abs w64 (int_shr (c.from.result *ℤ pos 1024 -ℤ pos 512) (c.args.bits + 1)) (omega (arith, s)) in
    simp to_z-of_z
    (ap (λ z. int_shr (z *ℤ pos 1024 -ℤ pos 512) (c.args.bits + 1)) e
    ∙ ap (last_of c.args.bits) (sym c.in-Some.is))
