use Rattle.std.proofs.Common.{arith, ◌∙◌}
use Rattle.std.specs.Int.{w64}
use Rattle.std.proofs.lemmas.Int.{to_z-of_z, fits_signed_from_abs}
use Rattle.fixed_math.proofs.AngleLemmas.{sine_ahead, sine_behind}
use Rattle.fixed_math.proofs.angles.Trig.sin.Goals as goal

pub returns-then-a-lt3840-clause-value : goal.returns-then-a-lt3840-clause-value
returns-then-a-lt3840-clause-value c =
    let f = fits_signed_from_abs w64 c.cos.result (omega arith) in
    to_z-of_z w64 c.cos.result f ∙ c.cos.ensures.value ∙ sine_ahead c.args.a (omega arith)

pub returns-else-a-lt3840-clause-value : goal.returns-else-a-lt3840-clause-value
returns-else-a-lt3840-clause-value c =
    let f = fits_signed_from_abs w64 c.cos-else-a-lt3840.result (omega arith) in
    to_z-of_z w64 c.cos-else-a-lt3840.result f ∙ c.cos-else-a-lt3840.ensures.value ∙ sine_behind c.args.a (omega arith) (omega arith)
