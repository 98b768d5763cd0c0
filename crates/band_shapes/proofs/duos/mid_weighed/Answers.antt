use Rattle.std.proofs.Common.{◌≡◌, ◌<◌, ◌^◌, arith, ap, ◌∙◌}
use Rattle.std.specs.Prelude.{ℤ, unsigned_abs, FitsSigned}
use Rattle.std.specs.Int.{w64}
use Rattle.std.proofs.lemmas.Int.{ints, to_z-of_z, fits_signed_from_abs}
use Rattle.fixed_math.specs.Bitexact.{product}
use Rattle.band_shapes.specs.Parts.{mid_of}
use Rattle.band_shapes.proofs.DuoLemmas.{weighed_by}
use Rattle.band_shapes.proofs.duos.mid_weighed.Goals as goal

pub returns-clause-value : goal.returns-clause-value
returns-clause-value c =
    let w : ℤ = c.middle_of-weight.result in
    let s : unsigned_abs c.args.v.first < 2 ^ 19 = c.requires.size.0 in
    let t : unsigned_abs c.args.v.second < 2 ^ 19 = c.requires.size.1 in
    let p : unsigned_abs c.scaled.result < 2 ^ 19 = c.scaled.ensures.size in
    let q : unsigned_abs c.scaled-2.result < 2 ^ 19 = c.scaled-2.ensures.size in
    let f : FitsSigned w64 w = fits_signed_from_abs w64 w (omega (arith, ints, c.middle_of-weight.ensures.low, c.middle_of-weight.ensures.high)) in
    let g : FitsSigned w64 c.args.v.first = fits_signed_from_abs w64 c.args.v.first (omega (arith, s)) in
    let h : FitsSigned w64 c.args.v.second = fits_signed_from_abs w64 c.args.v.second (omega (arith, t)) in
    let m : FitsSigned w64 c.scaled.result = fits_signed_from_abs w64 c.scaled.result (omega (arith, p)) in
    let n : FitsSigned w64 c.scaled-2.result = fits_signed_from_abs w64 c.scaled-2.result (omega (arith, q)) in
    let e : c.scaled.result ≡ product w c.args.v.first = simp to_z-of_z at c.scaled.ensures.value in
    let k : c.scaled-2.result ≡ product w c.args.v.second = simp to_z-of_z at c.scaled-2.ensures.value in
    let l : w ≡ mid_of c.args.cut.theta = c.middle_of-weight.ensures.value in
    simp to_z-of_z (weighed_by (mid_of c.args.cut.theta) c.args.v c.scaled.result c.scaled-2.result (e ∙ ap (λ z. product z c.args.v.first) l) (k ∙ ap (λ z. product z c.args.v.second) l))

pub returns-clause-size : goal.returns-clause-size
returns-clause-size c =
    let p : unsigned_abs c.scaled.result < 2 ^ 19 = c.scaled.ensures.size in
    let q : unsigned_abs c.scaled-2.result < 2 ^ 19 = c.scaled-2.ensures.size in
    let m : FitsSigned w64 c.scaled.result = fits_signed_from_abs w64 c.scaled.result (omega (arith, p)) in
    let n : FitsSigned w64 c.scaled-2.result = fits_signed_from_abs w64 c.scaled-2.result (omega (arith, q)) in
    simp to_z-of_z (p, q)
