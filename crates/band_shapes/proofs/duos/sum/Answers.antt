use Rattle.std.proofs.Common.{◌<◌, ◌^◌, arith, refl}
use Rattle.std.specs.Prelude.{ℤ, ◌+ℤ◌, unsigned_abs, FitsSigned}
use Rattle.std.specs.Int.{w64}
use Rattle.std.proofs.lemmas.Int.{ints, to_z-of_z, fits_signed_from_abs}
use Rattle.band_shapes.specs.Bands.{sum}
use Rattle.band_shapes.proofs.duos.sum.Goals as goal

pub overflow_add-result : goal.overflow_add-result
overflow_add-result c =
    let x : ℤ = c.args.x.first in
    let y : ℤ = c.args.y.first in
    let s : unsigned_abs x < 2 ^ 19 = c.requires.first.0 in
    let t : unsigned_abs y < 2 ^ 19 = c.requires.second.0 in
    let f : FitsSigned w64 x = fits_signed_from_abs w64 x (omega (arith, s)) in
    let g : FitsSigned w64 y = fits_signed_from_abs w64 y (omega (arith, t)) in
    simp to_z-of_z (fits_signed_from_abs w64 (x +ℤ y) (omega (arith, ints, s, t)))

pub overflow_add-result-2 : goal.overflow_add-result-2
overflow_add-result-2 c =
    let x : ℤ = c.args.x.second in
    let y : ℤ = c.args.y.second in
    let s : unsigned_abs x < 2 ^ 19 = c.requires.first.1 in
    let t : unsigned_abs y < 2 ^ 19 = c.requires.second.1 in
    let f : FitsSigned w64 x = fits_signed_from_abs w64 x (omega (arith, s)) in
    let g : FitsSigned w64 y = fits_signed_from_abs w64 y (omega (arith, t)) in
    simp to_z-of_z (fits_signed_from_abs w64 (x +ℤ y) (omega (arith, ints, s, t)))

pub returns-clause-value : goal.returns-clause-value
unfolding sum
returns-clause-value c =
    let x : ℤ = c.args.x.first in
    let y : ℤ = c.args.y.first in
    let u : ℤ = c.args.x.second in
    let v : ℤ = c.args.y.second in
    let s : unsigned_abs x < 2 ^ 19 = c.requires.first.0 in
    let t : unsigned_abs y < 2 ^ 19 = c.requires.second.0 in
    let k : unsigned_abs u < 2 ^ 19 = c.requires.first.1 in
    let l : unsigned_abs v < 2 ^ 19 = c.requires.second.1 in
    let f : FitsSigned w64 x = fits_signed_from_abs w64 x (omega (arith, s)) in
    let g : FitsSigned w64 y = fits_signed_from_abs w64 y (omega (arith, t)) in
    let h : FitsSigned w64 u = fits_signed_from_abs w64 u (omega (arith, k)) in
    let i : FitsSigned w64 v = fits_signed_from_abs w64 v (omega (arith, l)) in
    let m : FitsSigned w64 (x +ℤ y) = fits_signed_from_abs w64 (x +ℤ y) (omega (arith, ints, s, t)) in
    let n : FitsSigned w64 (u +ℤ v) = fits_signed_from_abs w64 (u +ℤ v) (omega (arith, ints, k, l)) in
    simp to_z-of_z refl

pub returns-clause-size : goal.returns-clause-size
returns-clause-size c =
    let x : ℤ = c.args.x.first in
    let y : ℤ = c.args.y.first in
    let u : ℤ = c.args.x.second in
    let v : ℤ = c.args.y.second in
    let s : unsigned_abs x < 2 ^ 19 = c.requires.first.0 in
    let t : unsigned_abs y < 2 ^ 19 = c.requires.second.0 in
    let k : unsigned_abs u < 2 ^ 19 = c.requires.first.1 in
    let l : unsigned_abs v < 2 ^ 19 = c.requires.second.1 in
    let f : FitsSigned w64 x = fits_signed_from_abs w64 x (omega (arith, s)) in
    let g : FitsSigned w64 y = fits_signed_from_abs w64 y (omega (arith, t)) in
    let h : FitsSigned w64 u = fits_signed_from_abs w64 u (omega (arith, k)) in
    let i : FitsSigned w64 v = fits_signed_from_abs w64 v (omega (arith, l)) in
    let m : FitsSigned w64 (x +ℤ y) = fits_signed_from_abs w64 (x +ℤ y) (omega (arith, ints, s, t)) in
    let n : FitsSigned w64 (u +ℤ v) = fits_signed_from_abs w64 (u +ℤ v) (omega (arith, ints, k, l)) in
    let a : unsigned_abs (x +ℤ y) < 2 ^ 20 = omega (arith, ints, s, t) in
    let b : unsigned_abs (u +ℤ v) < 2 ^ 20 = omega (arith, ints, k, l) in
    simp to_z-of_z (a, b)
