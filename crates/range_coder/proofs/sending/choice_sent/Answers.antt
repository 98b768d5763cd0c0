use Rattle.std.proofs.Common.{w64, arith}
use Rattle.std.proofs.lemmas.Int.{ints, to_z-of_z, fits_signed_from_abs}
use Rattle.range_coder.proofs.sending.choice_sent.Goals as goal

pub returns-clause-answer : goal.returns-clause-answer
returns-clause-answer c =
    let small = c.requires.small in
    to_z-of_z w64 c.args.choice.answer (fits_signed_from_abs w64 c.args.choice.answer (omega (arith, ints, small)))
