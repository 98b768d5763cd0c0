use Rattle.std.proofs.Common.{◌≡◌, arith, refl}
use Rattle.std.specs.Prelude.{pos, ◌*ℤ◌, FitsSigned}
use Rattle.std.specs.Int.{w32, int_shr, cast_signed as to_z}
use Rattle.std.proofs.lemmas.Int.{to_z-of_z, fits_signed_from_abs, to_z_pos}
use Rattle.bit_allocation.proofs.AmountLemmas.{product_within, shifted_within}
use Rattle.bit_allocation.proofs.amounts.tilted_by.Goals as goal

pub overflow_mul-result : goal.overflow_mul-result
overflow_mul-result c =
    let f : FitsSigned w32 c.args.steps = fits_signed_from_abs w32 c.args.steps (omega (arith, c.requires.steps)) in
    let e : to_z w32 c.args.tilt ≡ pos c.args.tilt = to_z_pos w32 c.args.tilt (omega (arith, c.requires.tilt)) in
    let p = product_within c.args.tilt c.args.steps c.requires.tilt c.requires.steps in
    rw (e, to_z-of_z w32 c.args.steps f) (fits_signed_from_abs w32 (pos c.args.tilt *ℤ c.args.steps) (omega (arith, p)))

pub returns-clause-value : goal.returns-clause-value
returns-clause-value c =
    let f : FitsSigned w32 c.args.steps = fits_signed_from_abs w32 c.args.steps (omega (arith, c.requires.steps)) in
    let e : to_z w32 c.args.tilt ≡ pos c.args.tilt = to_z_pos w32 c.args.tilt (omega (arith, c.requires.tilt)) in
    let p = product_within c.args.tilt c.args.steps c.requires.tilt c.requires.steps in
    let s = shifted_within (pos c.args.tilt *ℤ c.args.steps) p in
    let g : FitsSigned w32 (pos c.args.tilt *ℤ c.args.steps) = fits_signed_from_abs w32 (pos c.args.tilt *ℤ c.args.steps) (omega (arith, p)) in
    let h : FitsSigned w32 (int_shr (pos c.args.tilt *ℤ c.args.steps) 6) = fits_signed_from_abs w32 (int_shr (pos c.args.tilt *ℤ c.args.steps) 6) (omega (arith, s)) in
    rw (e, to_z-of_z w32 c.args.steps f, to_z-of_z w32 (pos c.args.tilt *ℤ c.args.steps) g, to_z-of_z w32 (int_shr (pos c.args.tilt *ℤ c.args.steps) 6) h) refl

pub returns-clause-size : goal.returns-clause-size
returns-clause-size c =
    let p = product_within c.args.tilt c.args.steps c.requires.tilt c.requires.steps in
    let s = shifted_within (pos c.args.tilt *ℤ c.args.steps) p in
    rw (returns-clause-value c) s
