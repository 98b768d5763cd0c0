use Rattle.std.proofs.Common.{◌≡◌, ◌^◌, ◌≤◌, w64, FitsSigned, pos, ◌+ℤ◌, ◌*ℤ◌, unsigned_abs, ap, arith, subst, sym, ◌∙◌}
use Rattle.std.proofs.lemmas.Int.{to_z-of_z, ints, fits_signed_from_abs}
use Rattle.band_energy.specs.EnergyValues.{kept_of, energy_from}
use Rattle.band_energy.proofs.values.coarse_energy.Goals as goal

pub returns-clause-value : goal.returns-clause-value
returns-clause-value c =
    let o = c.ranges.old in
    let r = c.ranges.carried in
    let v = c.ranges.value in
    let k : FitsSigned w64 c.kept.result = record { sfits = c.kept.type_inv } in
    let f : FitsSigned w64 c.from.result = record { sfits = c.from.type_inv } in
    let z : FitsSigned w64 c.energy_from.result = record { sfits = c.energy_from.type_inv } in
    let low = c.kept.ensures.least in
    let high = c.kept.ensures.most in
    let carry = c.requires.carried in
    let is_kept : c.kept.result ≡ kept_of c.args.alpha c.args.old = simp to_z-of_z at c.kept.ensures.value in
    let is_value : c.from.result ≡ c.args.value = simp to_z-of_z at c.from.ensures in
    let small : unsigned_abs c.from.result ≤ 2 ^ 14 = subst (λ x. unsigned_abs x ≤ 2 ^ 14) (sym is_value) c.requires.value in
    let first : FitsSigned w64 (c.kept.result +ℤ c.args.carried) =
    fits_signed_from_abs w64 (c.kept.result +ℤ c.args.carried) (omega (arith, ints, low, high, carry)) in
    let product : FitsSigned w64 (c.from.result *ℤ pos 131072) = fits_signed_from_abs w64 (c.from.result *ℤ pos 131072) (omega (arith, ints, small)) in
    let second : FitsSigned w64 (c.kept.result +ℤ c.args.carried +ℤ c.from.result *ℤ pos 131072) =
    fits_signed_from_abs w64 (c.kept.result +ℤ c.args.carried +ℤ c.from.result *ℤ pos 131072) (omega (arith, ints, low, high, carry, small)) in
    let e : c.energy_from.result ≡ energy_from (c.kept.result +ℤ c.args.carried +ℤ c.from.result *ℤ pos 131072) = simp to_z-of_z at c.energy_from.ensures.value in
    simp to_z-of_z
    (e
    ∙ ap (λ x. energy_from (x +ℤ c.args.carried +ℤ c.from.result *ℤ pos 131072)) is_kept
    ∙ ap (λ x. energy_from (kept_of c.args.alpha c.args.old +ℤ c.args.carried +ℤ x *ℤ pos 131072)) is_value)
