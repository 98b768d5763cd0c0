use Rattle.std.proofs.Common.{arith, ◌∙◌}
use Rattle.std.specs.Int.{w64}
use Rattle.std.proofs.lemmas.Int.{to_z-of_z, fits_signed_from_abs}
use Rattle.fixed_math.proofs.AngleLemmas.{cosine_folded_low, cosine_folded_high}
use Rattle.fixed_math.proofs.angles.Trig.cos.Goals as goal

pub returns-then-a-le7680-clause-value : goal.returns-then-a-le7680-clause-value
returns-then-a-le7680-clause-value c =
    let f = fits_signed_from_abs w64 c.half_circle.result (omega arith) in
    to_z-of_z w64 c.half_circle.result f ∙ c.half_circle.ensures.value ∙ cosine_folded_low c.args.a (omega arith)

pub returns-else-a-le7680-clause-value : goal.returns-else-a-le7680-clause-value
returns-else-a-le7680-clause-value c =
    let f = fits_signed_from_abs w64 c.half_circle-else-a-le7680.result (omega arith) in
    to_z-of_z w64 c.half_circle-else-a-le7680.result f ∙ c.half_circle-else-a-le7680.ensures.value ∙ cosine_folded_high c.args.a (omega arith)
