use Rattle.std.proofs.Common.{◌≡◌, arith, rules, ◌∙◌, ap}
use Rattle.std.specs.Prelude.{pos, ◌*ℤ◌, unsigned_abs, int_div, FitsSigned}
use Rattle.std.specs.Int.{w64, int_rem_euclid}
use Rattle.std.proofs.lemmas.Int.{to_z-of_z, fits_signed_from_abs}
use Rattle.fixed_math.specs.Circle.{sine}
use Rattle.rate_change.specs.Resampling.{wave}
use Rattle.rate_change.proofs.WeightLemmas.{wave_steps}
use Rattle.rate_change.proofs.weights.wave_at.Goals as goal

pub returns-clause-value : goal.returns-clause-value
unfolding wave
returns-clause-value c =
    let near = c.requires.near in
    let up = c.requires.up in
    let fd = fits_signed_from_abs w64 c.args.d.parts (omega arith) in
    let t = wave_steps c.args.d.parts c.from.result (omega arith) in
    let p = t.product in
    let q = t.quotient in
    let s = c.sin.ensures.size in
    let f = fits_signed_from_abs w64 c.sin.result (omega arith) in
    let fr : FitsSigned w64 c.rem_euclid.result = search rules in
    let fu : FitsSigned w64 c.from.result = search rules in
    let e : c.rem_euclid.result ≡ int_rem_euclid (int_div (pos 7680 *ℤ c.args.d.parts) c.from.result) (pos 15360) = simp to_z-of_z at c.rem_euclid.ensures.value in
    let v : c.sin.result ≡ sine (unsigned_abs c.rem_euclid.result) = simp to_z-of_z at c.sin.ensures.value in
    to_z-of_z w64 c.sin.result f ∙ v ∙ ap (λ z. sine (unsigned_abs z)) e ∙ ap (λ u. sine (unsigned_abs (int_rem_euclid (int_div (pos 7680 *ℤ c.args.d.parts) u) (pos 15360)))) c.from.ensures
