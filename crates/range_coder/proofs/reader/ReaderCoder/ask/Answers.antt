use Rattle.std.proofs.Common.{w64, FitsSigned, sym, ap, ◌∙◌, subst, refl, arith}
use Rattle.std.proofs.lemmas.Int.{ints, to_z-of_z, fits_signed_from_abs}
use Rattle.celt_base.specs.Paces.{paced}
use Rattle.range_coder.specs.Readers.{reader_pace}
use Rattle.range_coder.specs.Windows.{TakesAnswer}
use Rattle.range_coder.proofs.Longer.{reads_answer}
use Rattle.range_coder.proofs.reader.ReaderCoder.ask.Goals as goal

pub returns-clause-asks : goal.returns-clause-asks
returns-clause-asks c =
    let answer = c.read_answer-answer in
    let small = answer.ensures.small in
    let fits : FitsSigned w64 answer.result.0 = fits_signed_from_abs w64 answer.result.0 (omega (arith, ints, small)) in
    reads_answer c.args.self.now _ c.args.question _
    (subst (λ a. TakesAnswer c.args.self.now.frame.now c.args.self.now.window c.args.question a answer.result.1) (sym (to_z-of_z w64 answer.result.0 fits)) answer.ensures.takes) refl refl

pub returns-clause-pace : goal.returns-clause-pace
returns-clause-pace c =
    let answer = c.read_answer-answer in
    let small = answer.ensures.small in
    let fits : FitsSigned w64 answer.result.0 = fits_signed_from_abs w64 answer.result.0 (omega (arith, ints, small)) in
    answer.ensures.takes.pace ∙ ap (λ a. paced c.args.question a (reader_pace c.args.self.now)) (sym (to_z-of_z w64 answer.result.0 fits))
