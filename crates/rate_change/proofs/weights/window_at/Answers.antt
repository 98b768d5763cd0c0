use Rattle.std.proofs.Common.{◌≡◌, arith, ◌∙◌, ap, ◌*◌, ◌/◌}
use Rattle.std.specs.Prelude.{unsigned_abs}
use Rattle.std.specs.Int.{w64}
use Rattle.std.proofs.lemmas.Int.{to_z-of_z, fits_signed_from_abs}
use Rattle.fixed_math.specs.Circle.{cosine}
use Rattle.rate_change.specs.Resampling.{window_cosine}
use Rattle.rate_change.proofs.weights.window_at.Goals as goal

pub returns-clause-value : goal.returns-clause-value
unfolding window_cosine
returns-clause-value c =
    let s = c.cos.ensures.size in
    let f = fits_signed_from_abs w64 c.cos.result (omega arith) in
    let near = c.requires.near in
    let up = c.requires.up in
    let fp = fits_signed_from_abs w64 c.args.d.parts (omega arith) in
    let n : c.unsigned_abs.result ≡ unsigned_abs c.args.d.parts = simp to_z-of_z at c.unsigned_abs.ensures.value in
    to_z-of_z w64 c.cos.result f ∙ c.cos.ensures.value ∙ ap (λ n. cosine (240 * n / c.from.result)) n ∙ ap (λ u. cosine (240 * unsigned_abs c.args.d.parts / u)) c.from.ensures
