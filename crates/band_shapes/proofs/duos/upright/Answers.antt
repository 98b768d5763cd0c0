use Rattle.std.proofs.Common.{◌<◌, ◌^◌, arith}
use Rattle.std.specs.Prelude.{ℤ, pos, ◌-ℤ◌, unsigned_abs, FitsSigned}
use Rattle.std.specs.Int.{w64}
use Rattle.std.proofs.lemmas.Int.{ints, to_z-of_z, fits_signed_from_abs}
use Rattle.band_shapes.proofs.DuoLemmas.{upright_yes, upright_no}
use Rattle.band_shapes.proofs.duos.upright.Goals as goal

pub overflow_sub-result : goal.overflow_sub-result
overflow_sub-result c =
    let x : ℤ = c.args.v.first in
    let s : unsigned_abs x < 2 ^ 19 = c.requires.0 in
    let f : FitsSigned w64 x = fits_signed_from_abs w64 x (omega (arith, s)) in
    simp to_z-of_z (fits_signed_from_abs w64 (pos 0 -ℤ x) (omega (arith, ints, s)))

pub overflow_sub-result-else-negative : goal.overflow_sub-result-else-negative
overflow_sub-result-else-negative c =
    let x : ℤ = c.args.v.second in
    let s : unsigned_abs x < 2 ^ 19 = c.requires.1 in
    let f : FitsSigned w64 x = fits_signed_from_abs w64 x (omega (arith, s)) in
    simp to_z-of_z (fits_signed_from_abs w64 (pos 0 -ℤ x) (omega (arith, ints, s)))

pub returns-then-negative-clause-value : goal.returns-then-negative-clause-value
returns-then-negative-clause-value c =
    let x : ℤ = c.args.v.first in
    let y : ℤ = c.args.v.second in
    let s : unsigned_abs x < 2 ^ 19 = c.requires.0 in
    let t : unsigned_abs y < 2 ^ 19 = c.requires.1 in
    let f : FitsSigned w64 x = fits_signed_from_abs w64 x (omega (arith, s)) in
    let g : FitsSigned w64 y = fits_signed_from_abs w64 y (omega (arith, t)) in
    let n : FitsSigned w64 (pos 0 -ℤ x) = fits_signed_from_abs w64 (pos 0 -ℤ x) (omega (arith, ints, s)) in
    simp to_z-of_z (upright_yes c.args.negative c.args.v (pos 0 -ℤ x) c.if-negative.true (omega (arith, ints)))

pub returns-then-negative-clause-size : goal.returns-then-negative-clause-size
returns-then-negative-clause-size c =
    let x : ℤ = c.args.v.first in
    let y : ℤ = c.args.v.second in
    let s : unsigned_abs x < 2 ^ 19 = c.requires.0 in
    let t : unsigned_abs y < 2 ^ 19 = c.requires.1 in
    let f : FitsSigned w64 x = fits_signed_from_abs w64 x (omega (arith, s)) in
    let g : FitsSigned w64 y = fits_signed_from_abs w64 y (omega (arith, t)) in
    let n : FitsSigned w64 (pos 0 -ℤ x) = fits_signed_from_abs w64 (pos 0 -ℤ x) (omega (arith, ints, s)) in
    let u : unsigned_abs (pos 0 -ℤ x) < 2 ^ 19 = omega (arith, ints, s) in
    simp to_z-of_z (t, u)

pub returns-else-negative-clause-value : goal.returns-else-negative-clause-value
returns-else-negative-clause-value c =
    let x : ℤ = c.args.v.first in
    let y : ℤ = c.args.v.second in
    let s : unsigned_abs x < 2 ^ 19 = c.requires.0 in
    let t : unsigned_abs y < 2 ^ 19 = c.requires.1 in
    let f : FitsSigned w64 x = fits_signed_from_abs w64 x (omega (arith, s)) in
    let g : FitsSigned w64 y = fits_signed_from_abs w64 y (omega (arith, t)) in
    let n : FitsSigned w64 (pos 0 -ℤ y) = fits_signed_from_abs w64 (pos 0 -ℤ y) (omega (arith, ints, t)) in
    simp to_z-of_z (upright_no c.args.negative c.args.v (pos 0 -ℤ y) c.if-negative.false (omega (arith, ints)))

pub returns-else-negative-clause-size : goal.returns-else-negative-clause-size
returns-else-negative-clause-size c =
    let x : ℤ = c.args.v.first in
    let y : ℤ = c.args.v.second in
    let s : unsigned_abs x < 2 ^ 19 = c.requires.0 in
    let t : unsigned_abs y < 2 ^ 19 = c.requires.1 in
    let f : FitsSigned w64 x = fits_signed_from_abs w64 x (omega (arith, s)) in
    let g : FitsSigned w64 y = fits_signed_from_abs w64 y (omega (arith, t)) in
    let n : FitsSigned w64 (pos 0 -ℤ y) = fits_signed_from_abs w64 (pos 0 -ℤ y) (omega (arith, ints, t)) in
    let u : unsigned_abs (pos 0 -ℤ y) < 2 ^ 19 = omega (arith, ints, t) in
    simp to_z-of_z (u, s)
