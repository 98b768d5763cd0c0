use Rattle.std.proofs.Common.{◌<◌, ◌^◌, arith, subst, sym}
use Rattle.std.specs.Prelude.{unsigned_abs, FitsSigned}
use Rattle.std.specs.Int.{w64}
use Rattle.std.proofs.lemmas.Int.{to_z-of_z, fits_signed_from_abs}
use Rattle.band_shapes.proofs.DuoLemmas.{scaled_small}
use Rattle.band_shapes.proofs.duos.scaled.Goals as goal

pub returns-clause-size : goal.returns-clause-size
returns-clause-size c =
    let a = c.ranges.weight in
    let b = c.ranges.v in
    let e = simp to_z-of_z at c.mulr.ensures.value in
    let p : unsigned_abs c.mulr.result < 2 ^ 19 = subst (λ z. unsigned_abs z < 2 ^ 19) (sym e) (scaled_small c.args.weight c.args.v c.requires.low c.requires.high c.requires.size) in
    let f : FitsSigned w64 c.mulr.result = fits_signed_from_abs w64 c.mulr.result (omega (arith, p)) in
    simp to_z-of_z p
