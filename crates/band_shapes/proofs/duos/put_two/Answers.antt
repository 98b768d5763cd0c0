use Rattle.std.proofs.Common.{◌<◌, ◌^◌, arith}
use Rattle.std.specs.Prelude.{ℤ, unsigned_abs, FitsSigned}
use Rattle.std.specs.Int.{w64}
use Rattle.std.proofs.lemmas.Int.{to_z-of_z, fits_signed_from_abs}
use Rattle.band_shapes.proofs.DuoLemmas.{two_set}
use Rattle.band_shapes.proofs.duos.put_two.Goals as goal

pub returns : goal.returns
returns c =
    let x : ℤ = c.args.v.first in
    let y : ℤ = c.args.v.second in
    let s : unsigned_abs x < 2 ^ 20 = c.requires.size.0 in
    let t : unsigned_abs y < 2 ^ 20 = c.requires.size.1 in
    let f : FitsSigned w64 x = fits_signed_from_abs w64 x (omega (arith, s)) in
    let g : FitsSigned w64 y = fits_signed_from_abs w64 y (omega (arith, t)) in
    simp to_z-of_z (two_set c.args.x.now x y c.requires.count)
