use Rattle.std.proofs.Common.{pos, refl}
use Rattle.celt_base.specs.declared.question.Question.TheVariants.{Bit}
use Rattle.celt_base.specs.Questions.{part_of, bit_row}
use Rattle.range_coder.proofs.Taking.{takes_part}
use Rattle.range_coder.proofs.answers.read_bit.Goals as goal

pub returns-clause-takes : goal.returns-clause-takes
returns-clause-takes c =
    let bit = c.take_bit.result.0 in
    takes_part c.args.frame.now c.args.window c.take_bit.result.1 (Bit c.args.p) (pos bit) (part_of (bit_row c.args.p) bit)
    c.take_bit.ensures.bit refl (λ i holds. (holds, tt)) c.take_bit.ensures.takes
