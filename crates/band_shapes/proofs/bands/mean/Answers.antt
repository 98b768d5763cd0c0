use Rattle.std.proofs.Common.{◌≤◌, ◌^◌, arith}
use Rattle.std.specs.Prelude.{◌+ℤ◌, unsigned_abs, FitsSigned}
use Rattle.std.specs.Int.{w64, int_shr}
use Rattle.std.proofs.lemmas.Int.{ints, to_z-of_z, fits_signed_from_abs}
use Rattle.fixed_math.proofs.RoundingLemmas.{shr_scaled}
use Rattle.band_shapes.proofs.bands.mean.Goals as goal

pub overflow_add-result : goal.overflow_add-result
overflow_add-result c =
    let a = c.ranges.x in
    let b = c.ranges.y in
    simp to_z-of_z (fits_signed_from_abs w64 (c.args.x +ℤ c.args.y) (omega (arith, ints, c.requires.x, c.requires.y)))

pub returns-clause-value : goal.returns-clause-value
returns-clause-value c =
    let a = c.ranges.x in
    let b = c.ranges.y in
    let s : FitsSigned w64 (c.args.x +ℤ c.args.y) = fits_signed_from_abs w64 (c.args.x +ℤ c.args.y) (omega (arith, ints, c.requires.x, c.requires.y)) in
    let m : unsigned_abs (int_shr (c.args.x +ℤ c.args.y) 1) ≤ 2 ^ 19 = shr_scaled (c.args.x +ℤ c.args.y) 1 (2 ^ 19) (omega (arith, ints, c.requires.x, c.requires.y)) in
    let t : FitsSigned w64 (int_shr (c.args.x +ℤ c.args.y) 1) = fits_signed_from_abs w64 _ (omega (arith, m)) in
    simp to_z-of_z

pub returns-clause-size : goal.returns-clause-size
returns-clause-size c =
    let a = c.ranges.x in
    let b = c.ranges.y in
    let s : FitsSigned w64 (c.args.x +ℤ c.args.y) = fits_signed_from_abs w64 (c.args.x +ℤ c.args.y) (omega (arith, ints, c.requires.x, c.requires.y)) in
    let m : unsigned_abs (int_shr (c.args.x +ℤ c.args.y) 1) ≤ 2 ^ 19 = shr_scaled (c.args.x +ℤ c.args.y) 1 (2 ^ 19) (omega (arith, ints, c.requires.x, c.requires.y)) in
    let t : FitsSigned w64 (int_shr (c.args.x +ℤ c.args.y) 1) = fits_signed_from_abs w64 _ (omega (arith, m)) in
    simp to_z-of_z m
